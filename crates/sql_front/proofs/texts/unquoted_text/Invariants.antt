use Rattle.std.proofs.Common.{◌≡◌, ◌++◌}
use Rattle.std.specs.Prelude.{string_bytes}
use Rattle.sql_front.specs.LiteralValues.{unquoted}
use Rattle.sql_front.specs.Quoting.{continued, left_over}
use Rattle.sql_front.proofs.texts.unquoted_text.Given as goal

abbrev pub invariant-parts : goal.invariant-parts
invariant-parts l = string_bytes l.value ++ continued l.next ≡ unquoted l.rest

abbrev pub decreases-parts : goal.decreases-parts
decreases-parts l = left_over l.next
