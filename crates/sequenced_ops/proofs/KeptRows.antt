-- The steps of the loops that leave rows out, and what they keep.
use Rattle.std.proofs.Common.{◌≡◌, ◌++◌, ◌∷◌, [], ℕ, List, true, inl, inr, sym}
use Rattle.std.proofs.Common.{subst}
use Rattle.period_core.specs.declared.row.PeriodRow.{PeriodRow}
use Rattle.period_core.specs.declared.value.Value.{Value}
use Rattle.temporal_model.specs.Snapshot.{InSnapshot}
use Rattle.history_model.specs.OrdinaryQuery.{meets_all}
use Rattle.sequenced_ops.specs.Operations.{Cond}
use Rattle.sequenced_ops.specs.Planning.{IsPruned, RulesOut}
use Rattle.sequenced_ops.proofs.TwoRows.{holds-push}

module _ (conjuncts : List Cond) (start : ℕ) where
  -- the rows that remain of the done ones
  abbrev pub IsKept : List PeriodRow → List PeriodRow → Type 0
  IsKept done kept = IsPruned conjuncts start (InSnapshot done) kept

  -- no rows remain of none
  pub kept_none : IsKept [] []
  kept_none = record {
    sound = λ day values h. h;
    complete = λ day first values rest e h met. h;
  }

  pub kept_all : (rows : List PeriodRow) → IsKept rows rows
  kept_all rows = record {
    sound = λ day values h. h;
    complete = λ day first values rest e h met. h;
  }

  -- a row that remains is one more done row and one more remaining one
  pub kept_more
      : (done kept : List PeriodRow) (row : PeriodRow) → IsKept done kept
      → IsKept (done ++ row ∷ []) (kept ++ row ∷ [])
  kept_more done kept row old = record {
    sound = λ day values h.
        (holds-push done row day values).1
        (elim ((holds-push kept row day values).0 h) [
          | inl was ↦ inl (old.sound day values was)
          | inr here ↦ inr here
        ]);
    complete = λ day first values rest e h met.
        (holds-push kept row day values).1
        (elim ((holds-push done row day values).0 h) [
          | inl was ↦ inl (old.complete day first values rest e was met)
          | inr here ↦ inr here
        ]);
  }

  -- a row that the conditions rule out may be left out
  pub kept_same
      : (done kept : List PeriodRow) (row : PeriodRow) → RulesOut conjuncts start row.values
      → IsKept done kept → IsKept (done ++ row ∷ []) kept
  kept_same done kept row ruled old = record {
    sound = λ day values h. (holds-push done row day values).1 (inl (old.sound day values h));
    complete = λ day first values rest e h met.
        elim ((holds-push done row day values).0 h) [
          | inl was ↦ old.complete day first values rest e was met
          | inr (same, from, to) ↦
              absurd (ruled first rest e
              (subst (λ (v : List Value). meets_all conjuncts (first ++ (v ++ rest)) ≡ true)
              (sym same) met))
        ];
  }
