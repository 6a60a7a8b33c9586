-- The refusal of a statement by its faults: the lowest-numbered, or none.
use Rattle.std.proofs.Common.{◌≡◌, ◌∷◌, ◌∙◌, Bool, List, None, Some, ap, false, inl, inr, lit≤, refl, subst, sym, true}
use Rattle.std.proofs.lemmas.Bool.{false≢true}
use Rattle.period_core.specs.Leasts.{IsLeast, NoneApplies}
use Rattle.period_core.specs.declared.refusal.Refusal.{Refusal}
use Rattle.period_core.specs.declared.refusal.Refusal.TheVariants.{LimitReached, UnknownTable}
use Rattle.catalog_core.proofs.lemmas.judged.Least.{Ascending, first_least, none_first}
use Rattle.catalog_core.proofs.lemmas.judged.Sound.{all_false, are_false}
use Rattle.catalog_core.specs.RefusalConditions.{Holds, first_holding}
use Rattle.catalog_core.specs.table.Naming.{Name}
use Rattle.catalog_core.specs.table.TableWords.{number_of, table_of_name}
use Rattle.statement_resolution.proofs.lemmas.judged.FaultSums.{clear_of}
use Rattle.statement_resolution.proofs.lemmas.query.ColumnLists.{not_there}
use Rattle.statement_resolution.specs.Faults.{fault_conditions, no_faults}
use Rattle.statement_resolution.specs.TableFaults.{named_faults, there_faults}
use Rattle.statement_resolution.specs.declared.faults.Faults.{Faults}
use Rattle.catalog_core.specs.declared.table.TableDef.{TableDef}

ascending : (f : Faults) → Ascending 0 (fault_conditions f)
ascending f = (lit≤ tt, (lit≤ tt, (lit≤ tt, (lit≤ tt, (lit≤ tt, (lit≤ tt, (lit≤ tt, (lit≤ tt, (lit≤ tt, tt)))))))))

pub first_refused : (f : Faults) (refusal : Refusal) → first_holding (fault_conditions f) ≡ Some refusal → IsLeast (Holds (fault_conditions f)) refusal
first_refused f refusal first = first_least (fault_conditions f) refusal (ascending f) first

pub none_applies : (f : Faults) → f ≡ no_faults → NoneApplies (Holds (fault_conditions f))
none_applies f none = none_first (fault_conditions f) (ascending f) (ap (λ (g : Faults). first_holding (fault_conditions g)) none)

pub clear_if_none : (f : Faults) → NoneApplies (Holds (fault_conditions f)) → f ≡ no_faults
clear_if_none f none = clear_of f (are_false (fault_conditions f) none)

-- the faults that were found are all that the statement has
module _ (found f : Faults) (same : found ≡ f) where
  pub refused_by : (refusal : Refusal) → first_holding (fault_conditions found) ≡ Some refusal → IsLeast (Holds (fault_conditions f)) refusal
  refused_by refusal first = first_refused f refusal (sym (ap (λ (g : Faults). first_holding (fault_conditions g)) same) ∙ first)

  pub clear_by : first_holding (fault_conditions found) ≡ None → f ≡ no_faults
  clear_by none = sym same ∙ clear_of found (all_false (fault_conditions found) none)

-- ---- a statement about the table of a name

pub least_missing : (f : Faults) → f.table ≡ true → IsLeast (Holds (fault_conditions f)) UnknownTable
least_missing f lacking = first_refused f UnknownTable (rw lacking refl)

module _ (faults : TableDef → Faults) (tables : List TableDef) (name : Name) where
  pub missing : number_of tables name ≡ None → named_faults faults tables name ≡ record no_faults { table = true }
  missing lacking = ap (there_faults faults) (not_there tables name lacking)

  pub against : (t : TableDef) → table_of_name tables name ≡ Some t → named_faults faults tables name ≡ faults t
  against t there = ap (there_faults faults) there

-- ---- a query, which may also be above a limit

pub least_limit : (above : Bool) (f : Faults) → above ≡ true → IsLeast (Holds ((LimitReached, above) ∷ fault_conditions f)) LimitReached
least_limit above f many = first_least ((LimitReached, above) ∷ fault_conditions f) LimitReached (lit≤ tt, (lit≤ tt, (ascending f).1)) (rw many refl)

pub refused_above : (above : Bool) (f : Faults) (refusal : Refusal) → above ≡ false → IsLeast (Holds (fault_conditions f)) refusal → IsLeast (Holds ((LimitReached, above) ∷ fault_conditions f)) refusal
refused_above above f refusal few least =
    subst (λ (b : Bool). IsLeast (Holds ((LimitReached, b) ∷ fault_conditions f)) refusal) (sym few)
    (record {
      applies = inr least.applies;
      least = λ other h. elim h [ inl here ↦ absurd (false≢true here.1) | inr later ↦ least.least other later ];
    })

pub none_above : (above : Bool) (f : Faults) → above ≡ false → f ≡ no_faults → NoneApplies (Holds ((LimitReached, above) ∷ fault_conditions f))
none_above above f few none =
    subst (λ (b : Bool). NoneApplies (Holds ((LimitReached, b) ∷ fault_conditions f))) (sym few)
    (λ refusal h. elim h [ inl here ↦ absurd (false≢true here.1) | inr later ↦ none_applies f none refusal later ])
