use Rattle.std.proofs.Common.{◌≡◌, ◌∙◌, ℕ, [], get_or, length, subst, sym, ap, arith, inl, inr}
use Rattle.std.specs.Prelude.{MatchOption, Option}
use Rattle.std.specs.Borrow.{Bor}
use Rattle.std.specs.Global.{Box, Vec}
use Rattle.std.proofs.lemmas.Bool.{cases_lt, eq-eqb, eqb-true, false≢true}
use Rattle.std.proofs.lemmas.List.{get_or_default, nil_from_length}
use Rattle.period_core.specs.declared.value.Value.{Value}
use Rattle.sql_statements.specs.declared.tree.Tree as code
use Rattle.sql_statements.specs.Plain.{plain_condition}
use Rattle.sql_statements.specs.Trees.{Condition}
use Rattle.catalog_core.proofs.lemmas.conditions.Truth.{test_view}
use Rattle.period_keys.specs.FixedKeys.{States}
use Rattle.period_keys.proofs.Fixed.{in_first, in_none, in_other, only_view, several_none}
use Rattle.period_keys.proofs.fixed_keys.+stated_value.Goals as goal

-- the value found is one that the condition equates
abbrev Finds : {T : Type 0} → (T → ℕ → Value → Type 0) → Condition T → ℕ → Option (Bor Value) → Type 0
Finds Says condition position found = MatchOption found ((value : Value) → States Says condition position value → ⊥) (λ (value : Bor Value). States Says condition position value.now)

pub returns-in-Some : goal.returns-in-Some
returns-in-Some g t c =
    in_first (g.T.ColumnTest.Says c.args.comparison) c.args.condition.now c.in-And.first c.in-And.others c.args.position c.in-Some.value.now c.in-And.is c.deref.result.now c.deref.ensures c.in-Some.ensures

pub returns-in-Some-stated_value : goal.returns-in-Some-stated_value
returns-in-Some-stated_value g t c =
    in_other (g.T.ColumnTest.Says c.args.comparison) c.args.condition.now c.in-And.first c.in-And.others c.args.position c.in-Some-stated_value.value.now c.in-And.is c.deref-part-items.result.now c.deref-part-items.ensures.value
    c.loop-part.part-index c.part-item.result c.loop-part-test.true c.part-item.is c.in-Some-stated_value.ensures

pub loop-part-init : goal.loop-part-init
loop-part-init g t c = λ k d below value says. omega (arith, below)

pub loop-part-preserved : goal.loop-part-preserved
loop-part-preserved g t c = λ k d below value says.
    let parts = c.deref-part-items.result.now in
    let i : ℕ = c.loop-part.part-index in
    let here = c.part-item.result in
    elim (cases_lt k i) [
      | inl less ↦ c.loop-part.invariant k d less value says
      | inr more ↦
          let same : k ≡ i = omega (arith, below, more) in
          let at : get_or parts k d ≡ here = ap (λ n. get_or parts n d) same ∙ get_or_default parts i d here c.loop-part-test.true ∙ sym c.part-item.is in
          c.in_default-stated_value.ensures value (subst (λ p. States (g.T.ColumnTest.Says c.args.comparison) (plain_condition p) c.args.position value) at says)
    ]

pub returns-after-loop-part : goal.returns-after-loop-part
returns-after-loop-part g t c = λ value says.
    in_none (g.T.ColumnTest.Says c.args.comparison) c.args.condition.now c.in-And.first c.in-And.others c.args.position value c.in-And.is c.deref.result.now c.deref.ensures (c.in_default.ensures value)
    c.deref-part-items.result.now c.deref-part-items.ensures.value (λ k d below it. c.loop-part.invariant k d (omega (arith, below, c.loop-part-test.false)) value it) says

-- an OR of one part says what its part says
of_only : {T : Type 0} (Says : T → ℕ → Value → Type 0) (condition part : code.Tree T) (first : Box (code.Tree T)) (others : Vec (code.Tree T)) (position : ℕ) (found : Option (Bor Value)) → condition ≡ code.Or first others → others.items ≡ [] → part ≡ first.value
    → Finds Says (plain_condition part) position found → Finds Says (plain_condition condition) position found
of_only {T} Says condition part first others position found is alone same h =
    subst (λ (x : Condition T). Finds Says x position found) (sym (only_view condition first others is alone))
    (subst (λ (p : code.Tree T). Finds Says (plain_condition p) position found) same h)

pub returns-then-is_empty : goal.returns-then-is_empty
returns-then-is_empty g t c =
    let none : c.in-Or.others.len ≡ 0 = eqb-true c.in-Or.others.len 0 (sym c.is_empty.ensures ∙ c.if-is_empty.true) in
    let alone : c.in-Or.others.items ≡ [] = nil_from_length c.in-Or.others.items (omega (arith, none, c.in-Or.others.ok.0)) in
    of_only (g.T.ColumnTest.Says c.args.comparison) c.args.condition.now c.deref-then-is_empty.result.now c.in-Or.first c.in-Or.others c.args.position c.stated_value-then-is_empty.result c.in-Or.is alone c.deref-then-is_empty.ensures c.stated_value-then-is_empty.ensures

pub returns-else-is_empty : goal.returns-else-is_empty
returns-else-is_empty g t c = λ value says.
    several_none (g.T.ColumnTest.Says c.args.comparison) c.args.condition.now c.in-Or.first c.in-Or.others c.args.position value c.in-Or.is
    (λ none. let size = ap length none in false≢true (sym c.if-is_empty.false ∙ c.is_empty.ensures ∙ eq-eqb c.in-Or.others.len 0 (omega (arith, size, c.in-Or.others.ok.0)))) says

pub returns-in-Test : goal.returns-in-Test
returns-in-Test g t c =
    subst (λ x. Finds (g.T.ColumnTest.Says c.args.comparison) x c.args.position c.literal_at.result) (sym (ap plain_condition c.in-Test.is ∙ test_view c.in-Test.test)) c.literal_at.ensures
