-- Definitions that CREATE gives refer to tables before them alone.
use Rattle.std.proofs.Common.{◌≡◌, ◌<◌, ◌≤◌, ◌+◌, ◌∷◌, [], ◌∙◌, ℕ, zero, suc, List, Option, Some, None, ap, arith, length, map, refl, subst, sym, take}
use Rattle.std.specs.Prelude.{bytes_eq}
use Rattle.std.specs.List.{Contains, position, slice_get}
use Rattle.std.specs.Option.{option_map}
use Rattle.std.proofs.lemmas.List.{length-take-le}
use Rattle.std.proofs.lemmas.List.Quantifiers.{position-Some}
use Rattle.std.proofs.lemmas.Option.{slice_get_within}
use Rattle.catalog_core.specs.create.Definition.{declared_reference, reference_parts, Numbers}
use Rattle.catalog_core.specs.create.Lawful.{IsLawful}
use Rattle.catalog_core.specs.table.Naming.{Name}
use Rattle.catalog_core.specs.table.TableWords.{number_of, table_of}
use Rattle.catalog_core.specs.declared.table.Reference.{Reference}
use Rattle.catalog_core.specs.declared.table.TableDef.{TableDef}
use Rattle.period_keys.specs.Current.{ReferToEarlier}
use Rattle.period_keys.proofs.Members.{from_map, in_map}

-- a number is one of the tables' numbers
counted : (tables : List TableDef) (name : Name) (number : ℕ) → number_of tables name ≡ Some number → number ≤ length tables
unfolding number_of
counted tables name number is = by_place (position (λ (t : TableDef). bytes_eq name t.name) tables) refl is
  where
    by_place : (found : Option ℕ) → position (λ (t : TableDef). bytes_eq name t.name) tables ≡ found → option_map (λ n. n + 1) found ≡ Some number → number ≤ length tables
    by_place None e same = cc
    by_place (Some place) e same =
        let below : place < length tables = inside place e in
        let next : place + 1 ≡ number = cc in
        omega (arith, below, next)
      where
        inside : (place : ℕ) → position (λ (t : TableDef). bytes_eq name t.name) tables ≡ Some place → place < length tables
        inside place e = by_list tables e
          where
            by_list : (ts : List TableDef) → position (λ (t : TableDef). bytes_eq name t.name) ts ≡ Some place → place < length ts
            by_list [] e = cc
            by_list (t ∷ ts) e = (position-Some (λ (t : TableDef). bytes_eq name t.name) (t ∷ ts) place t e).0

-- the first part of what a reference was declared as
parent_number : (tables : List TableDef) (name : Name) (number : Option ℕ) (declared parts : Numbers) → declared ≡ parts → declared.0 ≡ number_of tables name → parts.0 ≡ number → number_of tables name ≡ number
parent_number tables name number declared parts same first second = sym first ∙ ap (λ (n : Numbers). n.0) same ∙ second

-- the parent of a lawful definition's reference is a table before it
pub earlier_parent : (tables : List TableDef) (d : TableDef) (r : Reference) → IsLawful tables d → Contains d.references r → r.parent ≤ length tables
unfolding declared_reference
earlier_parent tables d r (c, none, defines) there =
    let parts : Contains (map reference_parts d.references) (reference_parts r) = in_map reference_parts d.references r there in
    let (x, in_c, is) = from_map (declared_reference tables c) c.references (reference_parts r) (subst (λ (list : List Numbers). Contains list (reference_parts r)) (sym defines.references) parts) in
    counted tables x.parent r.parent (parent_number tables x.parent (Some r.parent) (declared_reference tables c x) (reference_parts r) is refl refl)

-- if each definition is one that CREATE gives over those before it, each reference is to an earlier table
pub refer_to_earlier : (catalog : List TableDef) → ((place : ℕ) (d : TableDef) → slice_get catalog place ≡ Some d → IsLawful (take place catalog) d) → ReferToEarlier catalog
refer_to_earlier catalog each number child reference parent refers = by_number number refers.is_child refers.is_reference
  where
    by_number : (number : ℕ) → table_of catalog number ≡ Some child → Contains child.references reference → reference.parent < number
    by_number zero is there = cc
    by_number (suc place) is there =
        let inside : place < length catalog = slice_get_within catalog place child is in
        let before : reference.parent ≤ length (take place catalog) = earlier_parent (take place catalog) child reference (each place child is) there in
        let size : length (take place catalog) ≡ place = length-take-le place catalog (omega (arith, inside)) in
        omega (arith, before, size)
