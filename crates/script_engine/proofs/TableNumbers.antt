-- A sound CREATE finds fewer tables than there may be.
use Rattle.std.proofs.Common.{◌≡◌, ◌<◌, Bool, true, false, List, length, nat_le, refl, inl, arith}
use Rattle.std.proofs.lemmas.Bool.Decides.{nat_tests}
use Rattle.period_core.specs.Leasts.{NoneApplies}
use Rattle.period_core.specs.declared.refusal.Refusal.TheVariants.{LimitReached}
use Rattle.sql_statements.specs.declared.create.CreateTable.{CreateTable}
use Rattle.catalog_core.specs.create.Creation.{create_conditions, exceeds_limits}
use Rattle.catalog_core.specs.RefusalConditions.{Holds}
use Rattle.catalog_core.specs.Limits.{most_tables}
use Rattle.catalog_core.specs.declared.table.TableDef.{TableDef}

exceeds_with : (catalog : List TableDef) (create : CreateTable) → nat_le most_tables (length catalog) ≡ true → exceeds_limits catalog create ≡ true
unfolding exceeds_limits
exceeds_with catalog create e = rw e refl

pub few_tables : (catalog : List TableDef) (create : CreateTable) → NoneApplies (Holds (create_conditions catalog create)) → length catalog < most_tables
few_tables catalog create none = by_test (nat_le most_tables (length catalog)) refl
  where
    by_test : (b : Bool) → nat_le most_tables (length catalog) ≡ b → length catalog < most_tables
    by_test true e = absurd (none LimitReached (inl (refl, exceeds_with catalog create e)))
    by_test false e = grind (arith, nat_tests, e)
