-- Names and numbers are read.
use Rattle.std.proofs.Common.{ℕ, [], ◌∷◌, codes, refl}
use Rattle.sql_statements.specs.Names.{upper}
use Rattle.sql_front.specs.reading.LeafValues.{number_value}
use Rattle.sql_front.specs.Language.{number}
use Rattle.sql_front.specs.Grammar.{name, comma}
use Rattle.sql_front.proofs.ReadGrammar.{IsName, IsNames, IsNumber}
use Rattle.sql_front.specs.reading.Leaves.{name_read, names_read, number_read}
use Rattle.sql_front.proofs.First.{Starts, starts_built, starts_one}
use Rattle.sql_front.proofs.Laws.{Any, Reads, reads_built, reads_one}
use Rattle.sql_front.proofs.Levels.{Level, Plain, level_built, level_enclosed_same, level_one, level_separated, plain_name, plain_number, plain_symbol}
use Rattle.sql_front.proofs.Sorts.{a_name, a_number, any_of, sign, reads_enclosed_next, reads_next, reads_separated_next}

pub reads_name : Reads IsName Any name_read
unfolding name_read
reads_name = reads_built upper (reads_one name)

pub starts_name : Starts (any_of (a_name ∷ [])) IsName
starts_name = starts_built upper (starts_one name)

pub level_name : (k : ℕ) → Level k IsName IsName
level_name k = level_built upper (level_one k plain_name)

pub reads_number : Reads IsNumber Any number_read
unfolding number_read
reads_number = reads_built number_value (reads_one number)

pub starts_number : Starts (any_of (a_number ∷ [])) IsNumber
starts_number = starts_built number_value (starts_one number)

pub level_number : (k : ℕ) → Level k IsNumber IsNumber
level_number k = level_built number_value (level_one k plain_number)

pub plain_comma : Plain comma
plain_comma = plain_symbol (codes ",") refl refl

pub reads_names : Reads IsNames Any names_read
unfolding names_read
reads_names =
    reads_enclosed_next (sign (codes ")") ∷ []) refl
    (reads_separated_next (sign (codes ",")) (sign (codes ")") ∷ []) (sign (codes ")") ∷ sign (codes ",") ∷ []) refl refl refl (reads_next (sign (codes ")") ∷ sign (codes ",") ∷ []) reads_name))

pub level_names : (k : ℕ) → Level k IsNames IsNames
level_names k = level_enclosed_same k (λ j. level_separated plain_comma (level_name j))
