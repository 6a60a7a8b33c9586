use Rattle.std.proofs.Common.{◌≡◌, ◌+◌, ◌<◌, ◌≤◌, ◌++◌, ℕ, List, Option, length, true}
use Rattle.std.proofs.Common.{Some, None, IfNone, IfSome, sym, ◌∙◌, ap, ap₂}
use Rattle.catalog_core.proofs.lemmas.query.InPlace.{both_within, first_past, second_past}
use Rattle.catalog_core.specs.declared.query.resolved.Query as code
use Rattle.catalog_core.specs.declared.query.resolved.QueryReference.{QueryReference}
use Rattle.catalog_core.specs.query.Fitting.{are_in_place}
use Rattle.catalog_core.specs.query.Queries.{plain_query, references_of}
use Rattle.catalog_core.proofs.query.fit.+next_place_in_query.Goals as goal

-- the references of a query of the program
abbrev refs : code.Query → List QueryReference
refs query = references_of (plain_query query)

-- the result of the second part is the result of the whole
some_more
    : (place next bound : ℕ) (all xs ys : List QueryReference) (result : Option ℕ) → all ≡ xs ++ ys
    → (are_in_place place xs ≡ true) × (place + length xs ≡ next) × (next ≤ bound)
    → IfSome result (λ end.
    (are_in_place next ys ≡ true) × (next + length ys ≡ end) × (end ≤ bound))
    → IfSome result (λ end.
    (are_in_place place all ≡ true) × (place + length all ≡ end) × (end ≤ bound))
some_more place next bound all xs ys None is first h = tt
some_more place next bound all xs ys (Some end) is first h =
    both_within place next end bound all xs ys is first h

none_more
    : (place next bound : ℕ) (all xs ys : List QueryReference) (result : Option ℕ) → all ≡ xs ++ ys
    → place + length xs ≡ next
    → IfNone result (are_in_place next ys ≡ true → bound < next + length ys)
    → IfNone result (are_in_place place all ≡ true → bound < place + length all)
none_more place next bound all xs ys None is reached h =
    second_past place next bound all xs ys is reached h
none_more place next bound all xs ys (Some end) is reached h = tt

pub returns-in_default-clause-none : goal.returns-in_default-clause-none
returns-in_default-clause-none t c =
    first_past c.args.place c.args.bound (refs c.args.query.now) (refs c.deref.result.now)
    (refs c.in-Combined.right.value)
    (ap refs c.in-Combined.is
    ∙ ap (λ (l : List QueryReference). l ++ refs c.in-Combined.right.value)
    (ap refs (sym c.deref.ensures)))
    c.in_default.ensures.none

pub returns-in-Some-clause-some : goal.returns-in-Some-clause-some
returns-in-Some-clause-some t c =
    some_more c.args.place c.in-Some.next c.args.bound (refs c.args.query.now)
    (refs c.deref.result.now) (refs c.deref-in-Combined.result.now)
    c.next_place_in_query-in-Combined.result
    (ap refs c.in-Combined.is
    ∙ ap₂ (λ (l r : List QueryReference). l ++ r) (ap refs (sym c.deref.ensures))
    (ap refs (sym c.deref-in-Combined.ensures)))
    c.in-Some.ensures.some c.next_place_in_query-in-Combined.ensures.some

pub returns-in-Some-clause-none : goal.returns-in-Some-clause-none
returns-in-Some-clause-none t c =
    none_more c.args.place c.in-Some.next c.args.bound (refs c.args.query.now)
    (refs c.deref.result.now) (refs c.deref-in-Combined.result.now)
    c.next_place_in_query-in-Combined.result
    (ap refs c.in-Combined.is
    ∙ ap₂ (λ (l r : List QueryReference). l ++ r) (ap refs (sym c.deref.ensures))
    (ap refs (sym c.deref-in-Combined.ensures)))
    c.in-Some.ensures.some.1 c.next_place_in_query-in-Combined.ensures.none
