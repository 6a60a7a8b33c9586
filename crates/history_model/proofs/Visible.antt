-- The rows that references see decide a query's answer: if all of them see the same sets, so does
-- the query.
use Rattle.std.proofs.Common.{◌↔◌, inl, inr, List, [], ◌∷◌}
use Rattle.std.specs.List.{Contains}
use Rattle.std.proofs.lemmas.List.Elements.{Contains-append_left, Contains-append_right}
use Rattle.temporal_model.proofs.Members.{Contains-here, Contains-there}
use Rattle.period_core.specs.declared.value.Value.{Value}
use Rattle.sql_statements.specs.declared.tree.SetOperator.{SetOperator}
use Rattle.sql_statements.specs.declared.tree.SetOperator.TheVariants.{Union, Except, Intersect}
use Rattle.catalog_core.specs.declared.query.resolved.QueryReference.{QueryReference}
use Rattle.catalog_core.specs.query.Queries.{Query, one, both, references_of}
use Rattle.history_model.specs.OrdinaryQuery.{InCombined, InProduct, InQuery, VisibleRows}

-- each of the references sees the same set
abbrev pub SeeAlike : VisibleRows → VisibleRows → List QueryReference → Type 0
SeeAlike Sees Others references =
    (reference : QueryReference) → Contains references reference → (values : List Value)
    → (Sees reference values ↔ Others reference values)

turned
    : (Sees Others : VisibleRows) (references : List QueryReference) → SeeAlike Sees Others references
    → SeeAlike Others Sees references
turned Sees Others references alike reference among values =
    let (there, back) = alike reference among values in (back, there)

product_seen
    : (Sees Others : VisibleRows) (references : List QueryReference) → SeeAlike Sees Others references
    → (values : List Value) → InProduct Sees references values → InProduct Others references values
product_seen Sees Others [] alike values h = h
product_seen Sees Others (reference ∷ more) alike values (first, rest, sees, others, is) = (
  first,
  rest,
  (alike reference (Contains-here reference more) first).0 sees,
  product_seen Sees Others more
      (λ r among. alike r (Contains-there reference more r among)) rest others,
  is,
)

combined_seen
    : (operator : SetOperator) (A B C D : List Value → Type 0)
    → ((row : List Value) → (A row ↔ C row)) → ((row : List Value) → (B row ↔ D row))
    → (row : List Value) → (InCombined operator A B row ↔ InCombined operator C D row)
combined_seen Union A B C D left right row = (
  λ h. elim h [ inl a ↦ inl ((left row).0 a) | inr b ↦ inr ((right row).0 b) ],
  λ h. elim h [ inl c ↦ inl ((left row).1 c) | inr d ↦ inr ((right row).1 d) ],
)
combined_seen Except A B C D left right row = (
  λ (a, none). ((left row).0 a, λ d. none ((right row).1 d)),
  λ (c, none). ((left row).1 c, λ b. none ((right row).0 b)),
)
combined_seen Intersect A B C D left right row = (
  λ (a, b). ((left row).0 a, (right row).0 b),
  λ (c, d). ((left row).1 c, (right row).1 d),
)

-- the query's set is the same if the references see the same
pub query_seen
    : (Sees Others : VisibleRows) (query : Query) → SeeAlike Sees Others (references_of query)
    → (row : List Value) → (InQuery Sees query row ↔ InQuery Others query row)
query_seen Sees Others (one select) alike row = (
  λ (values, product, met, its).
      (values, product_seen Sees Others select.references alike values product, met, its),
  λ (values, product, met, its).
      let back = turned Sees Others select.references alike in
      (values, product_seen Others Sees select.references back values product, met, its),
)
query_seen Sees Others (both operator left right) alike row =
    let xs = references_of left in
    let ys = references_of right in
    combined_seen operator (InQuery Sees left) (InQuery Sees right) (InQuery Others left)
    (InQuery Others right)
    (query_seen Sees Others left (λ r among. alike r (Contains-append_left xs ys r among)))
    (query_seen Sees Others right (λ r among. alike r (Contains-append_right xs ys r among))) row
