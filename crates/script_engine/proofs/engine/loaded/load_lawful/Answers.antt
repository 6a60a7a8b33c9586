use Rattle.std.proofs.Common.{◌≡◌, ◌∙◌, ◌∷◌, [], List, ap, arith, refl, rules, length, map, sym, subst, subst₂, true}
use Rattle.std.proofs.lemmas.Bool.{false≢true}
use Rattle.std.proofs.lemmas.List.{length-map}
use Rattle.std.proofs.lemmas.List.Sorted.{IsPermutation-refl}
use Rattle.catalog_core.specs.declared.table.TableDef.{TableDef}
use Rattle.period_keys.specs.Current.{HoldCurrent, rows_by_key}
use Rattle.period_keys.specs.Lawful.{IsLawfulState}
use Rattle.period_keys.specs.Rows.{RowsByKey}
use Rattle.period_keys.specs.TableRows.{TableRows}
use Rattle.script_engine.specs.engine.InMemory.{HaveCurrentRows}
use Rattle.script_engine.specs.engine.Faults.{current_state}
use Rattle.script_engine.proofs.LastState.{hold_now}
use Rattle.script_engine.proofs.engine.loaded.load_lawful.Goals as goal

no_items : {A : Type 0} (xs : List A) → length xs ≡ 0 → xs ≡ []
no_items [] none = refl
no_items (x ∷ xs) none = absurd (omega (arith, none))

pub returns-clause-follow : goal.returns-clause-follow
returns-clause-follow c =
    let tables : List TableRows = c.in_ok-current.current.items in
    record {
      lawful = c.requires;
      count = sym (length-map tables rows_by_key) ∙ ap length c.in_ok-current.ensures.rows ∙ c.in_ok-rows.ensures.count;
      indexed = c.in_ok-current.ensures.indexed;
    }

pub returns-then-is_empty-clause-loaded : goal.returns-then-is_empty-clause-loaded
returns-then-is_empty-clause-loaded c = λ d read.
    let none : c.in_ok-rows.rows.items ≡ [] = no_items c.in_ok-rows.rows.items (search rules) in
    subst (λ (ts : List TableRows). HaveCurrentRows d (map rows_by_key ts)) (sym c.new-current.ensures.items)
    (subst (HaveCurrentRows d) none (c.in_ok-rows.ensures.current d read))

pub returns-clause-loaded : goal.returns-clause-loaded
returns-clause-loaded c = λ d read. subst (HaveCurrentRows d) (sym c.in_ok-current.ensures.rows) (c.in_ok-rows.ensures.current d read)

pub returns-clause-lawful : goal.returns-clause-lawful
returns-clause-lawful c = λ d read.
    let rows : map rows_by_key c.as_slice.result.now ≡ c.in_ok-rows.rows.items = ap (map rows_by_key) c.as_slice.ensures.value ∙ c.in_ok-current.ensures.rows in
    let hold = hold_now d c.in_ok-rows.rows.items (c.in_ok-rows.ensures.current d read) (current_state d) (λ table day. IsPermutation-refl (current_state d table day)) in
    let law = c.in_ok-lawful.ensures (current_state d) (subst₂ (λ (tables : List TableDef) (ts : List RowsByKey). HoldCurrent tables (current_state d) ts) (sym read.same) (sym rows) hold) in
    subst (λ (tables : List TableDef). IsLawfulState tables (current_state d)) read.same (law.0 c.if-not-lawful.false)

pub returns-then-not-lawful-clause-bad : goal.returns-then-not-lawful-clause-bad
returns-then-not-lawful-clause-bad c = λ d read bad lawful.
    let rows : map rows_by_key c.as_slice.result.now ≡ c.in_ok-rows.rows.items = ap (map rows_by_key) c.as_slice.ensures.value ∙ c.in_ok-current.ensures.rows in
    let hold = hold_now d c.in_ok-rows.rows.items (c.in_ok-rows.ensures.current d read) (current_state d) (λ table day. IsPermutation-refl (current_state d table day)) in
    let law = c.in_ok-lawful.ensures (current_state d) (subst₂ (λ (tables : List TableDef) (ts : List RowsByKey). HoldCurrent tables (current_state d) ts) (sym read.same) (sym rows) hold) in
    let on : c.in_ok-lawful.lawful ≡ true = law.1 (subst (λ (tables : List TableDef). IsLawfulState tables (current_state d)) (sym read.same) lawful) in
    false≢true (sym c.if-not-lawful.true ∙ on)

pub returns-then-not-lawful-clause-why : goal.returns-then-not-lawful-clause-why
returns-then-not-lawful-clause-why c = λ d read good clock. absurd (returns-then-not-lawful-clause-bad c d read refl good.constrained)
