use Rattle.std.proofs.Common.{◌≡◌, ◌+◌, ◌++◌, ◌∷◌, [], ℕ, List, Option, take, Vec, Global, refl, sym, ◌∙◌, ap, subst}
use Rattle.std.specs.Prelude.{MatchOption}
use Rattle.std.proofs.lemmas.List.{take_all, take_more}
use Rattle.period_core.specs.declared.row.PeriodRow.{PeriodRow}
use Rattle.period_core.specs.declared.value.Value.{Value}
use Rattle.snapshot_audit.specs.Keys.{Reads}
use Rattle.snapshot_audit.proofs.KeyOrder.{AreEntries, by_key_from, entries_more, entries_none, entries_skip}
use Rattle.snapshot_audit.specs.declared.keys.KeyedEntry.{KeyedEntry}
use Rattle.snapshot_audit.proofs.keys.by_key.Goals as goal
use Rattle.snapshot_audit.proofs.keys.by_key.Goals.{in-Some+in_ok-push, in_default}

pub loop-row-init : goal.loop-row-init
loop-row-init c = rw c.in_ok-entries.ensures.items (entries_none c.args.columns.now)

-- nothing is read as a key, or this is
abbrev KeyRead : List ℕ → List Value → Option (List Value) → Type 0
KeyRead columns values found = MatchOption found ((key : List Value) → Reads columns values key → ⊥) (Reads columns values)

pub loop-row-preserved : goal.loop-row-preserved
loop-row-preserved c =
    let rows : List PeriodRow = c.args.rows.now in
    let columns : List ℕ = c.args.columns.now in
    let i = c.loop-row.row-index in
    let row : PeriodRow = c.row-item.result in
    let entries : List KeyedEntry = c.loop-row.entries.items in
    let more : take (i + 1) rows ≡ take i rows ++ row ∷ [] =
    take_more rows i row c.loop-row-test.true ∙ ap (λ (r : PeriodRow). take i rows ++ r ∷ []) (sym c.row-item.is) in
    let found : KeyRead columns row.values c.in_ok-key.field-0 =
    subst (λ (l : List Value). KeyRead columns l c.in_ok-key.field-0) c.as_slice.ensures c.in_ok-key.ensures in
    subst (λ done. AreEntries columns done c.match-branch-3.entries.items) (sym more)
    (elim c.match-branch-3.branch [
      | in-Some+in_ok-push w ↦
          let key : Reads columns row.values w.in-Some.key = subst (KeyRead columns row.values) w.in-Some.is found in
          subst (λ now. AreEntries columns (take i rows ++ row ∷ []) now)
          (sym (ap (λ (v : Vec KeyedEntry Global). v.items) w.entries-is ∙ w.in_ok-push.ensures.items))
          (entries_more columns (take i rows) entries row _ refl refl key c.loop-row.invariant)
      | in_default w ↦
          let none : (key : List Value) → Reads columns row.values key → ⊥ = subst (KeyRead columns row.values) w.in_default.is found in
          subst (λ now. AreEntries columns (take i rows ++ row ∷ []) now)
          (sym (ap (λ (v : Vec KeyedEntry Global). v.items) w.entries-is))
          (entries_skip columns (take i rows) entries row none c.loop-row.invariant)
    ])

pub returns : goal.returns
returns c =
    let rows : List PeriodRow = c.args.rows.now in
    let all : take c.loop-row.row-index rows ≡ rows = take_all c.loop-row.row-index rows c.loop-row-test.false in
    by_key_from c.args.columns.now rows c.loop-row.entries.items c.sort.new.self.items
    (subst (λ done. AreEntries c.args.columns.now done c.loop-row.entries.items) all c.loop-row.invariant)
    c.in_ok-sort.ensures.permutation c.in_ok-sort.ensures.sorted
