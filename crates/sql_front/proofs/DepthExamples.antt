-- Worked rows of the depth of parentheses.
use Rattle.std.proofs.Common.{[], ◌∷◌, codes, refl}
use Rattle.sql_statements.specs.declared.token.TokenKind.TheVariants.{Text}
use Rattle.sql_statements.specs.Lexemes.{Lexeme}
use Rattle.sql_front.specs.Depth.{IsDeeper, room}
use Rattle.sql_front.proofs.DepthFacts.{some_shallow}

-- a text that is one opening parenthesis
abbrev quoted : Lexeme
quoted = record { kind = Text; text = codes "("; start = 0; end = 1 }

-- '(' is a text, and opens nothing
quoted-not_deeper_than_0 : IsDeeper 0 (quoted ∷ []) → ⊥
unfolding room
quoted-not_deeper_than_0 = some_shallow 0 (quoted ∷ []) 0 refl
