use Rattle.std.proofs.Common.{◌≡◌, ◌∷◌, ◌∙◌, [], ap, arith, map, sym}
use Rattle.std.proofs.lemmas.Bool.{eqb-false, eqb-true}
use Rattle.std.proofs.lemmas.List.{nil_from_length}
use Rattle.sql_statements.specs.Plain.{plain_condition}
use Rattle.statement_resolution.proofs.lemmas.query.Members.{and_members, not_member, or_alone, or_member, test_member}
use Rattle.statement_resolution.specs.query.Resolving.{members}
use Rattle.statement_resolution.proofs.query.conversion.+outer_and.Goals as goal

pub returns-in-And : goal.returns-in-And
returns-in-And t c =
    ap (λ q. members (plain_condition q)) c.in-And.is ∙ and_members c.in-And.first c.in-And.others
    ∙ ap (λ q. plain_condition q ∷ map plain_condition c.in-And.others.items) (sym c.deref.ensures)
    ∙ ap (λ qs. plain_condition c.deref.result.now ∷ map plain_condition qs) (sym c.as_slice.ensures.value)

pub returns-then-is_empty : goal.returns-then-is_empty
returns-then-is_empty t c =
    let none : c.in-Or.others.len ≡ 0 = eqb-true c.in-Or.others.len 0 (sym c.is_empty.ensures ∙ c.if-is_empty.true) in
    let alone : c.in-Or.others.items ≡ [] = nil_from_length c.in-Or.others.items (omega (arith, none, c.in-Or.others.ok.0)) in
    ap (λ q. members (plain_condition q)) c.in-Or.is ∙ or_alone c.in-Or.only c.in-Or.others alone
    ∙ ap (λ q. members (plain_condition q)) (sym c.deref-then-is_empty.ensures) ∙ c.outer_and.ensures

pub returns-else-is_empty : goal.returns-else-is_empty
returns-else-is_empty t c =
    let more_than_one : ¬ (c.in-Or.others.len ≡ 0) = eqb-false c.in-Or.others.len 0 (sym c.is_empty.ensures ∙ c.if-is_empty.false) in
    ap (λ q. members (plain_condition q)) c.in-Or.is
    ∙ or_member c.in-Or.only c.in-Or.others (λ none. more_than_one (omega (arith, none, c.in-Or.others.ok.0)))
    ∙ ap (λ q. plain_condition q ∷ []) (sym c.in-Or.is)

pub returns-in-Not : goal.returns-in-Not
returns-in-Not t c = rw c.in-Not.is (not_member c.in-Not.field-0)

pub returns-in-Test : goal.returns-in-Test
returns-in-Test t c = rw c.in-Test.is (test_member c.in-Test.field-0)
