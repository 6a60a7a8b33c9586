-- Reading names with commas up to a comma and a keyword, as a loop does.
use Rattle.std.proofs.Common.{◌≡◌, ℕ, ◌<◌, true, List, [], ◌∷◌, ◌++◌, length, Option, Some, None, refl, arith}
use Rattle.std.proofs.lemmas.Bool.{and_parts}
use Rattle.sql_front.specs.declared.read_error.ReadError.{ReadError}
use Rattle.sql_front.specs.declared.read_error.ReadError.TheVariants as error
use Rattle.sql_statements.specs.Lexemes.{Lexeme}
use Rattle.sql_front.specs.reading.Gives.{Fails}
use Rattle.sql_front.specs.Grammar.{comma, name}
use Rattle.period_core.specs.TextReading.{◌>>=◌}
use Rattle.sql_front.specs.reading.Reading.{Reader, begins, bounded_read, fixed_read, preceded_read}
use Rattle.sql_front.specs.reading.Leaves.{name_read}
use Rattle.sql_front.specs.reading.ElementReaders.{leading_names_read, more_names_read, one_more_name, second_is}
use Rattle.sql_front.proofs.Loop.{Going, begins_some, going_fails, going_on, with_front}

-- the reader of one of the names after a comma
abbrev pub next_name : Reader (List ℕ)
next_name = preceded_read comma name_read

-- the names so far, and what is left to read, make the whole
abbrev pub Leading : List (List ℕ) → List Lexeme → Option (List (List ℕ) × List Lexeme) → Type 0
Leading = Going one_more_name next_name

first_front : {A : Type 0} (a : A) (read : Option (List A × List Lexeme))
    → with_front (a ∷ []) read ≡ ((read >>= λ y. Some ((a, y.0), y.1)) >>= λ (x : (A × List A) × List Lexeme). Some (x.0.0 ∷ x.0.1, x.1))
first_front a (Some x) = refl
first_front a None = refl

pub leading_first : (ts : List Lexeme) (a : List ℕ) (rest : List Lexeme) → name_read ts ≡ Some (a, rest)
    → Leading (a ∷ []) rest (leading_names_read ts)
unfolding leading_names_read more_names_read
leading_first ts a rest e = record {
  count = length rest;
  enough = omega arith;
  makes = rw e (first_front a (bounded_read one_more_name next_name (length rest) rest));
}

pub leading_fails_first : (fault : ReadError) (ts : List Lexeme) → Fails fault (name_read ts) → Fails fault (leading_names_read ts)
unfolding leading_names_read more_names_read
leading_fails_first error.Memory ts h = tt
leading_fails_first error.Syntax ts h = rw h refl

-- if one more name follows, a comma is next
pub comma_first : (ts : List Lexeme) → one_more_name ts ≡ true → begins comma ts ≡ true
unfolding one_more_name
comma_first ts e = (and_parts (begins comma ts) (second_is name ts) e).0

next_found : (rest between after : List Lexeme) (x : List ℕ)
    → fixed_read comma rest ≡ Some (tt, between) → name_read between ≡ Some (x, after) → next_name rest ≡ Some (x, after)
next_found rest between after x e f = rw (e, f) refl

pub leading_on : (front : List (List ℕ)) (rest between after : List Lexeme) (x : List ℕ) (whole : Option (List (List ℕ) × List Lexeme))
    → one_more_name rest ≡ true → fixed_read comma rest ≡ Some (tt, between) → name_read between ≡ Some (x, after) → length after < length rest
    → Leading front rest whole → Leading (front ++ x ∷ []) after whole
leading_on front rest between after x whole more e f less g =
    going_on one_more_name next_name front rest after x whole more (next_found rest between after x e f) less g

next_fails : (fault : ReadError) (rest between : List Lexeme)
    → fixed_read comma rest ≡ Some (tt, between) → Fails fault (name_read between) → Fails fault (next_name rest)
next_fails error.Memory rest between e f = tt
next_fails error.Syntax rest between e f = rw (e, f) refl

-- if a name fails, the whole does
pub leading_fails : (fault : ReadError) (front : List (List ℕ)) (rest between : List Lexeme) (whole : Option (List (List ℕ) × List Lexeme))
    → one_more_name rest ≡ true → fixed_read comma rest ≡ Some (tt, between) → Fails fault (name_read between)
    → Leading front rest whole → Fails fault whole
leading_fails fault front rest between whole more e f g =
    let some = begins_some comma rest (comma_first rest more) in
    going_fails one_more_name next_name fault front rest whole more some (next_fails fault rest between e f) g
