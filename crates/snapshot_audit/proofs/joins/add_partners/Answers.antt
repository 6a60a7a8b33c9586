use Rattle.std.proofs.Common.{◌≡◌, ◌+◌, ◌++◌, ◌∷◌, [], ℤ, List, take, sym, ◌∙◌, ap, subst, arith}
use Rattle.std.proofs.lemmas.List.{take_all, take_more}
use Rattle.period_core.specs.declared.value.Value.{Value}
use Rattle.snapshot_audit.specs.declared.keys.KeyedEntry.{KeyedEntry}
use Rattle.snapshot_audit.specs.Pairs.{Adds, InEach, InMeetingPair, InPair, Sided}
use Rattle.snapshot_audit.proofs.Adding.{each_more, each_none}
use Rattle.snapshot_audit.proofs.joins.add_partners.Goals as goal

pub loop-other-init : goal.loop-other-init
loop-other-init c =
    each_none (Sided (InPair c.args.select.now c.args.output) c.args.side) (Sided (InMeetingPair c.args.select.now c.args.output) c.args.side)
    c.args.entry.now c.args.rows.now.items

pub loop-other-preserved : goal.loop-other-preserved
loop-other-preserved c =
    let May : KeyedEntry → KeyedEntry → ℤ → List Value → Type 0 = Sided (InPair c.args.select.now c.args.output) c.args.side in
    let Must : KeyedEntry → KeyedEntry → ℤ → List Value → Type 0 = Sided (InMeetingPair c.args.select.now c.args.output) c.args.side in
    let partners : List KeyedEntry = c.args.partners.now in
    let k = c.loop-other.other-index in
    let other : KeyedEntry = c.other-item.result in
    let more : take (k + 1) partners ≡ take k partners ++ other ∷ [] = take_more partners k other (omega arith) ∙ ap (λ x. take k partners ++ x ∷ []) (sym c.other-item.is) in
    subst (λ l. Adds (InEach May c.args.entry.now l) (InEach Must c.args.entry.now l) c.args.rows.now.items c.add_sided.new.rows.items) (sym more)
    (each_more May Must c.args.entry.now c.args.rows.now.items (take k partners) other c.loop-other.rows.items c.add_sided.new.rows.items
    c.loop-other.invariant c.in_ok-add_sided.ensures)

pub returns : goal.returns
returns c =
    let May : KeyedEntry → KeyedEntry → ℤ → List Value → Type 0 = Sided (InPair c.args.select.now c.args.output) c.args.side in
    let Must : KeyedEntry → KeyedEntry → ℤ → List Value → Type 0 = Sided (InMeetingPair c.args.select.now c.args.output) c.args.side in
    let all : take c.loop-other.other-index c.args.partners.now ≡ c.args.partners.now = take_all c.loop-other.other-index c.args.partners.now (omega arith) in
    subst (λ l. Adds (InEach May c.args.entry.now l) (InEach Must c.args.entry.now l) c.args.rows.now.items c.loop-other.rows.items) all c.loop-other.invariant
