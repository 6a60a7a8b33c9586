use Rattle.std.proofs.Common.{◌≡◌, ◌<◌, ◌∷◌, ◌∙◌, ℕ, Bool, List, [], Option, Some, ap, arith, length, map, nat_lt, sym}
use Rattle.sql_statements.specs.declared.create.KeyElement.{KeyElement}
use Rattle.sql_statements.specs.declared.create.PeriodElement.{PeriodElement}
use Rattle.catalog_core.proofs.lemmas.create.Built.{below, columns_kept, mapped_lengths, own_all_within, own_within, some_there}
use Rattle.catalog_core.proofs.lemmas.bytes.DefinitionParts.{both, definition_kept}
use Rattle.catalog_core.proofs.lemmas.create.Shape.{end_placed, fails_single, period_parts, single, start_placed}
use Rattle.catalog_core.specs.create.Creation.{some_own_match}
use Rattle.catalog_core.specs.create.Definition.{column_parts, declared_column, declared_key, declared_period, own_place}
use Rattle.catalog_core.specs.table.IsDefinition.{are_places, has_some}
use Rattle.catalog_core.specs.declared.table.match_counts.MatchCount.TheVariants.{Zero}
use Rattle.catalog_core.proofs.create.builder.build.Goals as goal

pub unreachable-requires-in_default-own_place : goal.unreachable-requires-in_default-own_place
unreachable-requires-in_default-own_place c =
    let create = c.args.create.now in
    let only = single create.periods c.as_slice.result.now c.period-item.result c.as_slice.ensures c.requires.period c.period-item.is in
    let test : PeriodElement → Bool = λ x. some_own_match create Zero (x.start ∷ x.end ∷ []) in
    start_placed create c.period-item.result
    (fails_single test create.periods c.period-item.result only c.requires.sides)
    (sym c.own_place.ensures ∙ c.in_default-own_place.is)

pub unreachable-requires-in_default-own_place-2 : goal.unreachable-requires-in_default-own_place-2
unreachable-requires-in_default-own_place-2 c =
    let create = c.args.create.now in
    let only = single create.periods c.as_slice.result.now c.period-item.result c.as_slice.ensures c.requires.period c.period-item.is in
    let test : PeriodElement → Bool = λ x. some_own_match create Zero (x.start ∷ x.end ∷ []) in
    end_placed create c.period-item.result
    (fails_single test create.periods c.period-item.result only c.requires.sides)
    (sym c.own_place-2.ensures ∙ c.in_default-own_place-2.is)

pub own_places-requires : goal.own_places-requires
own_places-requires c =
    let create = c.args.create.now in
    let only = single create.keys c.as_slice-2.result.now c.key-item.result c.as_slice-2.ensures c.requires.key c.key-item.is in
    let test : KeyElement → Bool = λ x. some_own_match create Zero x.columns in
    rw c.as_slice-3.ensures.value (fails_single test create.keys c.key-item.result only c.requires.keys)

pub returns-clause-period : goal.returns-clause-period
returns-clause-period c =
    let create = c.args.create.now in
    let period = single create.periods c.as_slice.result.now c.period-item.result c.as_slice.ensures c.requires.period c.period-item.is in
    let start : own_place create c.period-item.result.start ≡ Some c.in-Some.start = sym c.own_place.ensures ∙ c.in-Some.is in
    let end : own_place create c.period-item.result.end ≡ Some c.in-Some-own_place.end = sym c.own_place-2.ensures ∙ c.in-Some-own_place.is in
    ap (map (declared_period create)) period ∙ period_parts create c.period-item.result c.in_ok-copy-2.field-0 c.in-Some.start c.in-Some-own_place.end c.in_ok-copy-2.ensures start end

pub returns-clause-key : goal.returns-clause-key
returns-clause-key c =
    let create = c.args.create.now in
    let key = single create.keys c.as_slice-2.result.now c.key-item.result c.as_slice-2.ensures c.requires.key c.key-item.is in
    let places : map (own_place create) c.key-item.result.columns ≡ map (λ (i : ℕ). Some i) c.from_vec-2.result =
    ap (map (own_place create)) (sym c.as_slice-3.ensures.value) ∙ c.in_ok-places.ensures ∙ ap (map (λ (i : ℕ). Some i)) (sym c.from_vec-2.ensures) in
    ap (map (declared_key create)) key ∙ ap (λ (ps : List (Option ℕ)). ps ∷ []) places

pub invariant_of-result : goal.invariant_of-result
invariant_of-result c =
    let create = c.args.create.now in
    let columns = c.args.columns.items in
    let long = mapped_lengths declared_column column_parts create.columns columns c.requires.columns in
    let start : own_place create c.period-item.result.start ≡ Some c.in-Some.start = sym c.own_place.ensures ∙ c.in-Some.is in
    let end : own_place create c.period-item.result.end ≡ Some c.in-Some-own_place.end = sym c.own_place-2.ensures ∙ c.in-Some-own_place.is in
    let key_long = mapped_lengths (own_place create) (λ (i : ℕ). Some i) c.as_slice-3.result.now c.in_ok-places.places.items c.in_ok-places.ensures in
    let key_some : 0 < length c.in_ok-places.places.items = omega (arith, key_long, c.as_slice-3.ensures.filled) in
    record {
      sound =
          rw (c.from_vec.ensures, c.from_vec-2.ensures, c.from_vec-3.ensures)
          (definition_kept (length create.columns) columns (record { name = c.in_ok-copy-2.field-0; start = c.in-Some.start; end = c.in-Some-own_place.end }) c.in_ok-places.places.items c.args.references.items
          long (columns_kept create columns c.requires.types c.requires.columns)
          (both (nat_lt c.in-Some.start (length create.columns)) (nat_lt c.in-Some-own_place.end (length create.columns))
          (below c.in-Some.start (length create.columns) (own_within create c.period-item.result.start c.in-Some.start start))
          (below c.in-Some-own_place.end (length create.columns) (own_within create c.period-item.result.end c.in-Some-own_place.end end)))
          (both (has_some c.in_ok-places.places.items) (are_places (length create.columns) c.in_ok-places.places.items) (some_there c.in_ok-places.places.items key_some)
          (own_all_within create c.as_slice-3.result.now c.in_ok-places.places.items c.in_ok-places.ensures))
          c.requires.references);
    }
