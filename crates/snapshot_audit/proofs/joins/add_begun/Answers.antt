use Rattle.std.proofs.Common.{◌≡◌, ◌+◌, ◌++◌, ◌∷◌, [], ℤ, List, take, sym, ◌∙◌, ap, subst, arith}
use Rattle.std.proofs.lemmas.List.{take_all, take_more}
use Rattle.period_core.specs.declared.value.Value.{Value}
use Rattle.period_core.specs.declared.row.PeriodRow.{PeriodRow}
use Rattle.snapshot_audit.specs.declared.keys.KeyedEntry.{KeyedEntry}
use Rattle.snapshot_audit.specs.Keys.{HasPeriod}
use Rattle.snapshot_audit.specs.Pairs.{Adds, Begun, InAny, InEach, InMeetingPair, InPair, Sided}
use Rattle.snapshot_audit.proofs.Adding.{adds_to_same, any_more, any_none, partners_are_all}
use Rattle.snapshot_audit.proofs.joins.add_begun.Goals as goal

pub loop-entry-init : goal.loop-entry-init
loop-entry-init c =
    any_none (Sided (InPair c.args.select.now c.args.output) c.args.side) (Begun (Sided (InMeetingPair c.args.select.now c.args.output) c.args.side))
    c.args.others.now c.args.rows.items

pub loop-entry-preserved : goal.loop-entry-preserved
loop-entry-preserved c =
    let May : KeyedEntry → KeyedEntry → ℤ → List Value → Type 0 = Sided (InPair c.args.select.now c.args.output) c.args.side in
    let Must : KeyedEntry → KeyedEntry → ℤ → List Value → Type 0 = Begun (Sided (InMeetingPair c.args.select.now c.args.output) c.args.side) in
    let entries : List KeyedEntry = c.args.entries.now in
    let others : List KeyedEntry = c.args.others.now in
    let k = c.loop-entry.entry-index in
    let entry : KeyedEntry = c.entry-item.result in
    let period : HasPeriod entry = subst HasPeriod (sym c.entry-item.is) (c.requires.entries k entry c.loop-entry-test.true) in
    let more : take (k + 1) entries ≡ take k entries ++ entry ∷ [] = take_more entries k entry (omega arith) ∙ ap (λ x. take k entries ++ x ∷ []) (sym c.entry-item.is) in
    let roomy : List PeriodRow = c.in_ok-roomy.roomy.items in
    let next : Adds (InEach May entry others) (InEach Must entry others) c.loop-entry.added.items c.add_partners.new.rows.items =
    adds_to_same (InEach May entry others) (InEach Must entry others) c.loop-entry.added.items roomy c.add_partners.new.rows.items c.in_ok-roomy.ensures
    (partners_are_all c.args.select.now c.args.output c.args.side entry others c.beginning_within-partners.result.now roomy c.add_partners.new.rows.items
    period c.requires.others c.beginning_within-partners.ensures.inside c.beginning_within-partners.ensures.all c.in_ok-add_partners.ensures) in
    subst (λ l. Adds (InAny May l others) (InAny Must l others) c.args.rows.items c.add_partners.new.rows.items) (sym more)
    (any_more May Must others c.args.rows.items (take k entries) entry c.loop-entry.added.items c.add_partners.new.rows.items c.loop-entry.invariant next)

pub returns : goal.returns
returns c =
    let May : KeyedEntry → KeyedEntry → ℤ → List Value → Type 0 = Sided (InPair c.args.select.now c.args.output) c.args.side in
    let Must : KeyedEntry → KeyedEntry → ℤ → List Value → Type 0 = Begun (Sided (InMeetingPair c.args.select.now c.args.output) c.args.side) in
    let all : take c.loop-entry.entry-index c.args.entries.now ≡ c.args.entries.now = take_all c.loop-entry.entry-index c.args.entries.now (omega arith) in
    subst (λ l. Adds (InAny May l c.args.others.now) (InAny Must l c.args.others.now) c.args.rows.items c.loop-entry.added.items) all c.loop-entry.invariant
