use Rattle.std.proofs.Common.{◌≡◌, ◌++◌, ◌∷◌, [], ℕ, List, refl, subst, sym}
use Rattle.std.specs.Prelude.{Contains, Result, Ok, Err, OnErr, OnOk}
use Rattle.std.proofs.lemmas.List.Elements.{Contains-append_left, Contains-push}
use Rattle.period_keys.specs.TableRows.{HasMoreIndexes, TableRows}
use Rattle.period_keys.proofs.Answered.{on_ok}
use Rattle.period_keys.proofs.TableLists.{has_more_refl}
use Rattle.period_keys.proofs.table_index.TableIndex.index_once.Goals as goal

either : {X E : Type 0} (r : Result X E) {P Q H : Type 0} → (P → H) → (Q → H) → OnOk r P → OnErr r Q → H
either (Ok x) f g p q = f p
either (Err e) f g p q = g q

pub returns-in-None-clause-ok : goal.returns-in-None-clause-ok
returns-in-None-clause-ok c =
    let table : TableRows = c.args.self.now in
    on_ok c.index_by.result (λ is. subst (λ (t : TableRows). Contains t.indexed c.args.positions) (sym is) (Contains-push table.indexed c.args.positions)) c.index_by.ensures.ok

more_with : (table new : TableRows) (positions : List ℕ) → new.positions ≡ table.positions → new.rows ≡ table.rows → new.indexed ≡ table.indexed ++ positions ∷ [] → HasMoreIndexes table new
more_with table new positions same rows is = record {
  positions = same;
  rows = rows;
  indexed = λ ps there. subst (λ (list : List (List ℕ)). Contains list ps) (sym is) (Contains-append_left table.indexed (positions ∷ []) ps there);
}

pub returns-in-None-clause-kept : goal.returns-in-None-clause-kept
returns-in-None-clause-kept c =
    let table : TableRows = c.args.self.now in
    either c.index_by.result (λ is. subst (HasMoreIndexes table) (sym is) (more_with table _ c.args.positions refl refl refl)) (λ same. subst (HasMoreIndexes table) (sym same) (has_more_refl table)) c.index_by.ensures.ok c.index_by.ensures.err
