-- Names, and what they match.
-- Each word answers for every list: a name that matches nothing has no place and no kind, and no
-- test holds of it.
use Rattle.std.specs.Prelude.{ℕ, Bool, false, List, Option, Some, None, bytes_eq, count_by}
use Rattle.std.specs.Prelude.{find}
use Rattle.std.specs.List.{list_any, position}
use Rattle.sql_statements.specs.declared.statement.TableReference.{TableReference}
use Rattle.catalog_core.specs.table.Matches.{is_matching}
use Rattle.catalog_core.specs.declared.table.match_counts.MatchCount.{MatchCount}
use Rattle.catalog_core.specs.declared.table.match_counts.MatchCount.TheVariants.{Many}

-- a name, by its bytes
abbrev pub Name : Type 0
Name = List ℕ

-- In a list of elements that have names, by what gives the name of each: how many a name matches
unfoldable pub matches_among : {X : Type 0} → (X → Name) → List X → Name → ℕ
matches_among named xs name = count_by (λ x. bytes_eq name (named x)) xs

-- some of the names matches the wanted number of elements
unfoldable pub some_match_among : {X : Type 0} → (X → Name) → List X → MatchCount → List Name → Bool
some_match_among named xs wanted names =
    list_any (λ name. is_matching wanted (matches_among named xs name)) names

-- the place of the first that a name matches
unfoldable pub place_among : {X : Type 0} → (X → Name) → List X → Name → Option ℕ
place_among named xs name = position (λ x. bytes_eq name (named x)) xs

-- the first
unfoldable pub find_among : {X : Type 0} → (X → Name) → List X → Name → Option X
find_among named xs name = find (λ x. bytes_eq name (named x)) xs

-- the number of the names that a name matches
abbrev pub match_count : List Name → Name → ℕ
match_count names name = matches_among (λ (x : Name). x) names name

-- a name is in the list more than once
unfoldable pub repeats : List Name → Bool
repeats names = list_any (λ name. is_matching Many (match_count names name)) names

-- a test of a value that may not be there
abbrev pub passes : {X : Type 0} → (X → Bool) → Option X → Bool
passes test None = false
passes test (Some x) = test x

-- a new name, or else the old one
abbrev pub name_or : Option Name → Name → Name
name_or None name = name
name_or (Some new) name = new

-- the name by which a reference is known: a new name hides the table's
abbrev pub known_name : TableReference → Name
known_name reference = name_or reference.new_name reference.table
