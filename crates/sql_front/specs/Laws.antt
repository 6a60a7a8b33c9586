-- A law of the grammar. It is the contract of a function of this crate.
use Rattle.std.specs.Prelude.{◌≡◌, List}
use Rattle.sql_statements.specs.Lexemes.{Lexeme}
use Rattle.sql_statements.specs.Trees.{Statement}
use Rattle.sql_front.specs.Grammar.{IsStatement}

-- no list of tokens spells two statements
abbrev pub SpellsOne : Type 0
SpellsOne =
    (lexemes : List Lexeme) (one other : Statement)
    → IsStatement lexemes one → IsStatement lexemes other → one ≡ other
