use Rattle.std.proofs.Common.{◌≡◌, ◌∙◌, ℕ, ap, arith, get_or, inl, inr, subst, sym}
use Rattle.std.proofs.lemmas.Bool.{cases_lt}
use Rattle.std.proofs.lemmas.List.{get_or_default}
use Rattle.sql_statements.specs.Plain.{plain_condition}
use Rattle.sql_statements.specs.declared.tree.Tree as code
use Rattle.catalog_core.specs.declared.condition.CompareValues.{CompareValues}
use Rattle.period_keys.specs.FixedKeys.{IsComparison, States}
use Rattle.period_keys.proofs.fixed_keys.value_by_one.Goals as goal

pub loop-condition-init : goal.loop-condition-init
loop-condition-init c = λ k d below value says. omega (arith, below)

pub loop-condition-preserved : goal.loop-condition-preserved
loop-condition-preserved c = λ k d below value says.
    let conditions = c.args.conditions.now in
    let i : ℕ = c.loop-condition.condition-index in
    let here = c.condition-item.result in
    elim (cases_lt k i) [
      | inl less ↦ c.loop-condition.invariant k d less value says
      | inr more ↦
          let same : k ≡ i = omega (arith, below, more) in
          let at : get_or conditions k d ≡ here = ap (λ n. get_or conditions n d) same ∙ get_or_default conditions i d here c.loop-condition-test.true ∙ sym c.condition-item.is in
          c.in_default.ensures value (subst (λ (p : code.Tree CompareValues). States (IsComparison c.args.comparison) (plain_condition p) c.args.place value) at says)
    ]

pub returns-in-Some : goal.returns-in-Some
returns-in-Some c = (c.loop-condition.condition-index, c.condition-item.result, c.loop-condition-test.true, sym c.condition-item.is, c.in-Some.ensures)

pub returns : goal.returns
returns c = λ value says.
    c.loop-condition.invariant says.0 says.1 (omega (arith, says.2, c.loop-condition-test.false)) value
    (subst (λ (p : code.Tree CompareValues). States (IsComparison c.args.comparison) (plain_condition p) c.args.place value) (sym says.3) says.4)
