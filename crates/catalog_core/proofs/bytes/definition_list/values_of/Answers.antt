use Rattle.std.proofs.Common.{◌≤◌, ◌&&◌, Bool, ap, arith, length}
use Rattle.catalog_core.proofs.lemmas.bytes.DefinitionParts.{all_weaker, numbers, parts, places_wider}
use Rattle.catalog_core.specs.table.IsDefinition.{are_places, is_reference}
use Rattle.catalog_core.specs.Limits.{number_limit}
use Rattle.catalog_core.specs.declared.table.Reference.{Reference}
use Rattle.catalog_core.proofs.bytes.definition_list.values_of.Goals as goal

pub push_counted-requires : goal.push_counted-requires
push_counted-requires c =
    let d = c.args.definition.now in
    let few : length d.columns ≤ number_limit = omega (arith, ap length c.as_slice.ensures, c.push_columns.ensures.few) in
    let kept = parts d.columns d.period d.key d.references d.sound in
    rw c.as_slice-2.ensures (places_wider (length d.columns) number_limit few d.key kept.places)

pub push_references-requires : goal.push_references-requires
push_references-requires c =
    let d = c.args.definition.now in
    let few : length d.columns ≤ number_limit = omega (arith, ap length c.as_slice.ensures, c.push_columns.ensures.few) in
    let kept = parts d.columns d.period d.key d.references d.sound in
    let numbered : Reference → Bool = λ r. are_places number_limit r.own && are_places number_limit r.keys in
    rw c.as_slice-3.ensures (all_weaker (is_reference (length d.columns)) numbered (numbers (length d.columns) few) d.references kept.referring)
