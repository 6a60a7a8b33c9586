-- Rows that are added, but some that cannot meet the conditions.
use Rattle.std.proofs.Common.{[], ◌++◌, ℤ, List, refl, inl, inr, ◌⊎◌, ◌↔◌}
use Rattle.period_core.specs.declared.row.PeriodRow.{PeriodRow}
use Rattle.period_core.specs.declared.value.Value.{Value}
use Rattle.temporal_model.specs.Snapshot.{InSnapshot}
use Rattle.sequenced_ops.specs.Operations.{Cond}
use Rattle.sequenced_ops.specs.Joining.{Adds, CanMeet}
use Rattle.sequenced_ops.specs.Planning.{RulesOut}
use Rattle.sequenced_ops.proofs.TwoRows.{holds-append}

-- a row that is ruled out cannot meet the conditions
pub ruled_out-not : (conjuncts : List Cond) (values : List Value) → RulesOut conjuncts 0 values → CanMeet conjuncts values → ⊥
ruled_out-not conjuncts values ruled (rest, met) = ruled [] rest refl met

module _ (conjuncts : List Cond) where
  -- rows with the days and values of the old rows and of a set add the set
  pub Adds-all :
      (InSet : ℤ → List Value → Type 0) (old new : List PeriodRow)
      → ((day : ℤ) (vs : List Value) → (InSnapshot new day vs ↔ (InSnapshot old day vs ⊎ InSet day vs)))
      → Adds conjuncts InSet old new
  Adds-all InSet old new same = record {
    kept = λ day vs h. (same day vs).1 (inl h);
    sound = λ day vs h. (same day vs).0 h;
    complete = λ day vs h can. (same day vs).1 (inr h);
  }

  -- rows that add nothing, if no row of the set can meet the conditions
  pub Adds-none :
      (InSet : ℤ → List Value → Type 0) (rows : List PeriodRow)
      → ((day : ℤ) (vs : List Value) → InSet day vs → CanMeet conjuncts vs → ⊥)
      → Adds conjuncts InSet rows rows
  Adds-none InSet rows none = record {
    kept = λ day vs h. h;
    sound = λ day vs h. inl h;
    complete = λ day vs h can. absurd (none day vs h can);
  }

  -- rows that add one set, and then another
  pub Adds-both :
      (First Second Both : ℤ → List Value → Type 0) (old middle new : List PeriodRow)
      → Adds conjuncts First old middle → Adds conjuncts Second middle new
      → ((day : ℤ) (vs : List Value) → (Both day vs ↔ (First day vs ⊎ Second day vs)))
      → Adds conjuncts Both old new
  Adds-both First Second Both old middle new a b split = record {
    kept = λ day vs h. b.kept day vs (a.kept day vs h);
    sound = λ day vs h. elim (b.sound day vs h) [
      | inl before ↦ elim (a.sound day vs before) [ inl was ↦ inl was | inr one ↦ inr ((split day vs).1 (inl one)) ]
      | inr two ↦ inr ((split day vs).1 (inr two))
    ];
    complete = λ day vs h can. elim ((split day vs).0 h) [
      | inl one ↦ b.kept day vs (a.complete day vs one can)
      | inr two ↦ b.complete day vs two can
    ];
  }

  -- adding after other rows
  pub Adds-behind :
      (InSet : ℤ → List Value → Type 0) (done old new : List PeriodRow) → Adds conjuncts InSet old new
      → Adds conjuncts InSet (done ++ old) (done ++ new)
  Adds-behind InSet done old new adds = record {
    kept = λ day vs h. (holds-append done new day vs).1 (elim ((holds-append done old day vs).0 h) [
      | inl before ↦ inl before
      | inr was ↦ inr (adds.kept day vs was)
    ]);
    sound = λ day vs h. elim ((holds-append done new day vs).0 h) [
      | inl before ↦ inl ((holds-append done old day vs).1 (inl before))
      | inr there ↦ elim (adds.sound day vs there) [
        | inl was ↦ inl ((holds-append done old day vs).1 (inr was))
        | inr one ↦ inr one
      ]
    ];
    complete = λ day vs h can. (holds-append done new day vs).1 (inr (adds.complete day vs h can));
  }
