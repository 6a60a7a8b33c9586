use Rattle.std.proofs.Common.{◌≡◌, ◌∙◌, List, [], ap, arith, length, map, sym}
use Rattle.std.proofs.lemmas.List.{length-map}
use Rattle.sql_statements.specs.Plain.{plain_select}
use Rattle.statement_resolution.proofs.lemmas.query.Converted.{select_agrees}
use Rattle.statement_resolution.proofs.lemmas.query.ReferenceLists.{Borrowed}
use Rattle.statement_resolution.proofs.lemmas.query.ScopeFaults.{select_sum}
use Rattle.statement_resolution.specs.Faults.{either}
use Rattle.statement_resolution.specs.query.Faults.{item_kinds, known_twice, lacks_any, missing_fault}
use Rattle.catalog_core.specs.query.Fitting.{are_in_place}
use Rattle.statement_resolution.specs.query.Places.{place_among, placed_item, placed_reference}
use Rattle.statement_resolution.specs.query.Resolving.{conjunct_parts, reference_parts}
use Rattle.statement_resolution.specs.query.Scopes.{SeenColumn, seen_columns, tables_of}
use Rattle.catalog_core.specs.query.Selection.{item_parts}
use Rattle.statement_resolution.proofs.query.select_conversion.convert_select.Goals as goal

pub from_vec-requires : goal.from_vec-requires
from_vec-requires c =
    let now = λ (r : Borrowed). r.now in
    omega (
      arith,
      ap length c.in_ok-references-2.ensures.parts,
      length-map (map now c.as_slice-2.result.now) (placed_reference c.args.catalog.now.tables),
      length-map c.as_slice-2.result.now now,
      length-map c.in_ok-references-2.references.items reference_parts,
      c.in_ok-references.ensures.filled,
      ap length c.as_slice-2.ensures.value,
    )

pub returns : goal.returns
returns c =
    let catalog = c.args.catalog.now.tables in
    let s = plain_select c.args.select.now in
    let now = λ (r : Borrowed). r.now in
    let borrowed : map now c.as_slice-2.result.now ≡ tables_of s = ap (map now) c.as_slice-2.ensures.value ∙ c.in_ok-references.ensures.value in
    let twice : c.names_twice.result ≡ known_twice (tables_of s) =
    c.names_twice.ensures ∙ ap (λ rs. known_twice (map now rs)) c.as_slice.ensures.value ∙ ap known_twice c.in_ok-references.ensures.value in
    let seen : c.as_slice-3.result.now ≡ seen_columns catalog (tables_of s) = c.as_slice-3.ensures.value ∙ c.in_ok-conjuncts.ensures.seen in
    let count : length c.in_ok-references-2.references.items ≡ length (tables_of s) =
    omega (arith, ap length c.in_ok-references-2.ensures.parts, ap length borrowed, length-map (map now c.as_slice-2.result.now) (placed_reference catalog), length-map c.in_ok-references-2.references.items reference_parts) in
    let same_length = ap length c.from_vec.ensures in
    record {
      same = λ clean.
          let parts = select_agrees catalog s clean in
          record {
            references = parts.references ∙ ap (map (placed_reference catalog)) (sym borrowed)
                ∙ c.in_ok-references-2.ensures.parts ∙ ap (map reference_parts) (sym c.from_vec.ensures);
            conjuncts = parts.conjuncts ∙ sym c.in_ok-conjuncts.ensures.placed ∙ ap (map conjunct_parts) (sym c.from_vec-2.ensures);
            items =
                parts.items
                ∙ ap (λ (cs : List SeenColumn). map (placed_item (place_among [] cs)) s.items) (sym seen)
                ∙ ap (map (placed_item (place_among [] c.as_slice-3.result.now))) (sym c.as_slice-4.ensures.value)
                ∙ c.in_ok-items.ensures.numbered ∙ ap (map item_parts) (sym c.from_vec-3.ensures);
          };
      placed = ap (are_in_place c.args.place.now) c.from_vec.ensures ∙ c.in_ok-references-2.ensures.placed;
      counted = omega (arith, same_length, c.len.ensures, c.in_ok-references-2.references.ok.0);
      tables = omega (arith, c.len.ensures, count, c.in_ok-references-2.references.ok.0);
      kinds = c.in_ok-items.ensures.kinds ∙ ap (λ (cs : List SeenColumn). item_kinds cs c.as_slice-4.result.now) seen ∙ ap (item_kinds (seen_columns catalog (tables_of s))) c.as_slice-4.ensures.value;
      faults = select_sum catalog s c.args.faults.now c.none.result c.or.result c.convert_references.new.faults c.convert_conjuncts.new.faults c.convert_items.new.faults c.as_slice-3.result.now c.as_slice-4.result.now
          c.none.ensures (c.or.ensures ∙ ap (λ b. either c.args.faults.now (record c.none.result { twice = b })) twice)
          (c.in_ok-references-2.ensures.faults ∙ ap (λ rs. either c.or.result (missing_fault (lacks_any catalog rs))) borrowed)
          c.in_ok-conjuncts.ensures.faults seen c.as_slice-4.ensures.value c.in_ok-items.ensures.faults;
    }
