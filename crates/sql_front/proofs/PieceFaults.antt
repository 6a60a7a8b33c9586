-- The refusals of a piece that is spelled and not too deep are its literals' refusals.
use Rattle.std.proofs.Common.{◌≤◌, List}
use Rattle.period_core.specs.Codes.{code_of}
use Rattle.period_core.specs.Leasts.{IsLeast, NoneApplies}
use Rattle.period_core.specs.declared.refusal.Refusal.{Refusal}
use Rattle.period_core.specs.declared.refusal.Refusal.TheVariants.{Syntax, TooDeep, BadDate, BadMoment, NumberRange}
use Rattle.sql_statements.specs.Lexemes.{Lexeme}
use Rattle.sql_front.specs.LiteralRefusals.{LiteralApplies}
use Rattle.sql_front.specs.PieceRefusals.{IsTooDeep, PieceApplies, SpellsNone}

piece_least_from : (ts : List Lexeme) (refusal : Refusal) → (IsTooDeep ts → ⊥) → (SpellsNone ts → ⊥) → IsLeast (LiteralApplies ts) refusal
    → (other : Refusal) → PieceApplies ts other → code_of refusal ≤ code_of other
piece_least_from ts refusal deep spelled l Syntax h = absurd (spelled h.1)
piece_least_from ts refusal deep spelled l TooDeep h = absurd (deep h)
piece_least_from ts refusal deep spelled l BadDate h = l.least BadDate h
piece_least_from ts refusal deep spelled l BadMoment h = l.least BadMoment h
piece_least_from ts refusal deep spelled l NumberRange h = l.least NumberRange h
piece_least_from ts refusal deep spelled l other h = absurd h

piece_applies : (ts : List Lexeme) (refusal : Refusal) → LiteralApplies ts refusal → PieceApplies ts refusal
piece_applies ts BadDate h = h
piece_applies ts BadMoment h = h
piece_applies ts NumberRange h = h
piece_applies ts other h = absurd h

-- the least refusal for its literals is the least for the piece
pub piece_least : (ts : List Lexeme) (refusal : Refusal) → (IsTooDeep ts → ⊥) → (SpellsNone ts → ⊥) → IsLeast (LiteralApplies ts) refusal → IsLeast (PieceApplies ts) refusal
piece_least ts refusal deep spelled l = record {
  applies = piece_applies ts refusal l.applies;
  least = piece_least_from ts refusal deep spelled l;
}

-- if a piece's literals call for no refusal, no condition of the piece applies
pub piece_none : (ts : List Lexeme) → (IsTooDeep ts → ⊥) → (SpellsNone ts → ⊥) → NoneApplies (LiteralApplies ts) → NoneApplies (PieceApplies ts)
piece_none ts deep spelled none Syntax h = spelled h.1
piece_none ts deep spelled none TooDeep h = deep h
piece_none ts deep spelled none BadDate h = none BadDate h
piece_none ts deep spelled none BadMoment h = none BadMoment h
piece_none ts deep spelled none NumberRange h = none NumberRange h
piece_none ts deep spelled none other h = h
