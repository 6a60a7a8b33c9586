-- The result of a reading function of the code, against the value that is to be read.
use Rattle.std.specs.Prelude.{◌≡◌, Result, Ok, Err, Option, Some, None}
use Rattle.sql_front.specs.declared.read_error.ReadError.{ReadError}
use Rattle.sql_front.specs.declared.read_error.ReadError.TheVariants as error

-- a fault of this kind, against the value that is to be read
abbrev pub Fails : {Y : Type 0} → ReadError → Option Y → Type 0
Fails error.Memory read = Unit {0}
Fails error.Syntax read = read ≡ None

-- the result of a function, seen by view, is the value that reading gives, unless memory ran out
abbrev pub Gives : {X Y : Type 0} → (X → Y) → Result X ReadError → Option Y → Type 0
Gives view (Ok x) read = read ≡ Some (view x)
Gives view (Err e) read = Fails e read
