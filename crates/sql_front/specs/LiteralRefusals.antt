-- The refusals that the literals of a piece call for.
use Rattle.std.specs.Prelude.{List}
use Rattle.period_core.specs.declared.refusal.Refusal.{Refusal}
use Rattle.period_core.specs.declared.refusal.Refusal.TheVariants.{BadDate, BadMoment, NumberRange}
use Rattle.sql_statements.specs.Lexemes.{Lexeme}
use Rattle.sql_front.specs.LiteralFaults.{HasBadDate, HasBadMoment, HasNumberOutside}

-- the condition of each refusal for a literal
abbrev pub LiteralApplies : List Lexeme → Refusal → Type 0
LiteralApplies lexemes BadDate = HasBadDate lexemes
LiteralApplies lexemes BadMoment = HasBadMoment lexemes
LiteralApplies lexemes NumberRange = HasNumberOutside lexemes
LiteralApplies lexemes other = ⊥
