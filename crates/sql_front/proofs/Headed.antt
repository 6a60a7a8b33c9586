-- A production of one part and a repetition of a second one, as it is read.
use Rattle.std.proofs.Common.{◌≡◌, Bool, List, Some, refl}
use Rattle.sql_front.specs.declared.read_error.ReadError.{ReadError}
use Rattle.sql_front.specs.declared.read_error.ReadError.TheVariants as error
use Rattle.sql_statements.specs.Lexemes.{Lexeme}
use Rattle.sql_front.specs.reading.Gives.{Fails}
use Rattle.sql_front.specs.reading.Reading.{Reader, sequence_read, built_read, repetition_read}

module _ {A B C : Type 0} (f : A × List B → C) (p : Reader A) (d : List Lexeme → Bool) (q : Reader B) where
  pub headed_found : (ts middle rest : List Lexeme) (a : A) (bs : List B) → p ts ≡ Some (a, middle) → repetition_read d q middle ≡ Some (bs, rest) → built_read f (sequence_read p (repetition_read d q)) ts ≡ Some (f (a, bs), rest)
  headed_found ts middle rest a bs e h = rw (e, h) refl

  pub headed_fails : (fault : ReadError) (ts middle : List Lexeme) (a : A) → p ts ≡ Some (a, middle) → Fails fault (repetition_read d q middle) → Fails {Y = C × List Lexeme} fault (built_read f (sequence_read p (repetition_read d q)) ts)
  headed_fails error.Memory ts middle a e h = tt
  headed_fails error.Syntax ts middle a e h = rw (e, h) refl
