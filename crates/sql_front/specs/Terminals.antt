-- The tokens that are a terminal of the code.
use Rattle.std.specs.Prelude.{Bool}
use Rattle.sql_front.specs.declared.terminal.Terminal.{Terminal}
use Rattle.sql_front.specs.declared.terminal.Terminal.TheVariants as terminals
use Rattle.sql_statements.specs.Lexemes.{Lexeme}
use Rattle.sql_front.specs.Language.{keyword, symbol}

-- the token is this terminal
abbrev pub terminal : Terminal → Lexeme → Bool
terminal (terminals.Keyword word) = keyword word.now
terminal (terminals.Symbol sign) = symbol sign.now
