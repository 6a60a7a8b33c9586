-- A table by its elements, one after the other.
use Rattle.std.proofs.Common.{◌≡◌, ℕ, List, [], ◌∷◌, ◌++◌, Option, Some, None, refl, ◌∙◌, ◌<◌, arith, length, map}
use Rattle.std.specs.Prelude.{filter_map}
use Rattle.std.proofs.lemmas.List.{append-nil, map_push}
use Rattle.std.proofs.lemmas.List.Elements.{filter_map-append}
use Rattle.sql_front.specs.declared.tables.TableElement as tables
use Rattle.sql_front.specs.Builders.{Element, column_element, period_element, system_element, key_element, reference_element, table_of, a_column, a_period, a_system_period, a_key, a_reference}
use Rattle.sql_statements.specs.Elements.{HasElement}
use Rattle.sql_front.specs.PlainElements.{plain_element, with_element}

-- the elements of a kind, with one more
taken : {X Y : Type 0} (h : X → Option Y) (xs : List X) (x : X) (y : Y) → h x ≡ Some y
    → filter_map h (xs ++ x ∷ []) ≡ filter_map h xs ++ y ∷ []
taken h xs x y e = filter_map-append h xs (x ∷ []) ∙ rw e refl

-- the elements of a kind, after one of another kind
left_out : {X Y : Type 0} (h : X → Option Y) (xs : List X) (x : X) → h x ≡ None
    → filter_map h (xs ++ x ∷ []) ≡ filter_map h xs
left_out h xs x e = filter_map-append h xs (x ∷ []) ∙ rw e (append-nil (filter_map h xs))

-- the elements of each kind after one element more
pub table_pushed : (name : List ℕ) (es : List Element) (e : Element)
    → with_element (table_of (name, (es, tt))) e ≡ table_of (name, (es ++ e ∷ [], tt))
table_pushed name es (column_element c) =
    rw (
      taken a_column es (column_element c) c refl,
      left_out a_period es (column_element c) refl,
      left_out a_system_period es (column_element c) refl,
      left_out a_key es (column_element c) refl,
      left_out a_reference es (column_element c) refl,
    ) refl
table_pushed name es (period_element p) =
    rw (
      left_out a_column es (period_element p) refl,
      taken a_period es (period_element p) p refl,
      left_out a_system_period es (period_element p) refl,
      left_out a_key es (period_element p) refl,
      left_out a_reference es (period_element p) refl,
    ) refl
table_pushed name es (system_element p) =
    rw (
      left_out a_column es (system_element p) refl,
      left_out a_period es (system_element p) refl,
      taken a_system_period es (system_element p) p refl,
      left_out a_key es (system_element p) refl,
      left_out a_reference es (system_element p) refl,
    ) refl
table_pushed name es (key_element k) =
    rw (
      left_out a_column es (key_element k) refl,
      left_out a_period es (key_element k) refl,
      left_out a_system_period es (key_element k) refl,
      taken a_key es (key_element k) k refl,
      left_out a_reference es (key_element k) refl,
    ) refl
table_pushed name es (reference_element r) =
    rw (
      left_out a_column es (reference_element r) refl,
      left_out a_period es (reference_element r) refl,
      left_out a_system_period es (reference_element r) refl,
      left_out a_key es (reference_element r) refl,
      taken a_reference es (reference_element r) r refl,
    ) refl

-- an element of the program is added
pub element_added : (name : List ℕ) (es : List tables.TableElement) (e : tables.TableElement)
    → with_element (table_of (name, (map plain_element es, tt))) (plain_element e)
    ≡ table_of (name, (map plain_element (es ++ e ∷ []), tt))
element_added name es e =
    table_pushed name (map plain_element es) (plain_element e) ∙ rw (map_push plain_element es e) refl

-- a table of some element has one
pub has_element : (name : List ℕ) (es : List Element) → 0 < length es → HasElement (table_of (name, (es, tt)))
has_element name [] p = absurd (omega (arith, p))
has_element name (column_element c ∷ es) p = omega arith
has_element name (period_element e ∷ es) p = omega arith
has_element name (system_element e ∷ es) p = omega arith
has_element name (key_element k ∷ es) p = omega arith
has_element name (reference_element r ∷ es) p = omega arith
