-- A piece of a script that is refused for its syntax or for its literals.
use Rattle.std.specs.Prelude.{List}
use Rattle.period_core.specs.declared.refusal.Refusal.{Refusal}
use Rattle.period_core.specs.declared.refusal.Refusal.TheVariants.{Syntax, TooDeep, BadDate}
use Rattle.period_core.specs.declared.refusal.Refusal.TheVariants.{BadMoment, NumberRange}
use Rattle.sql_statements.specs.Lexemes.{Lexeme}
use Rattle.sql_statements.specs.Trees.{Statement}
use Rattle.sql_front.specs.Literals.{any_value}
use Rattle.sql_front.specs.Grammar.{Spells}
use Rattle.sql_front.specs.Depth.{IsDeeper, most_open}
use Rattle.sql_front.specs.LiteralFaults.{HasBadDate, HasBadMoment, HasNumberOutside}

-- among the tokens up to some place there are over 32 more opening parentheses than closing ones
abbrev pub IsTooDeep : List Lexeme → Type 0
IsTooDeep lexemes = IsDeeper most_open lexemes

-- no statement is spelled so, even if each literal may be any value
abbrev pub SpellsNone : List Lexeme → Type 0
SpellsNone lexemes = (statement : Statement) → Spells any_value lexemes statement → ⊥

-- the condition of each refusal, over the tokens of a piece
abbrev pub PieceApplies : List Lexeme → Refusal → Type 0
PieceApplies lexemes Syntax = (IsTooDeep lexemes → ⊥) × SpellsNone lexemes
PieceApplies lexemes TooDeep = IsTooDeep lexemes
PieceApplies lexemes BadDate = HasBadDate lexemes
PieceApplies lexemes BadMoment = HasBadMoment lexemes
PieceApplies lexemes NumberRange = HasNumberOutside lexemes
PieceApplies lexemes other = ⊥
