use Rattle.std.proofs.Common.{◌≤◌, ◌<◌, map, length, codes}
use Rattle.sql_statements.specs.Lexemes.{lexemes}
use Rattle.sql_front.specs.Language.{symbol}
use Rattle.sql_front.specs.reading.Reading.{separated_read}
use Rattle.sql_front.proofs.Loop.{Goes}
use Rattle.sql_front.proofs.list.separated.Given as goal

abbrev pub invariant-items : goal.invariant-items
invariant-items g l = record {
  goes : Goes (symbol (codes ",")) (g.T.Item.reader l.depth) (map g.T.Item.view l.items.items) (lexemes l.rest) (separated_read (symbol (codes ",")) (g.T.Item.reader l.depth) (lexemes l.tokens));
  rest : length l.rest ≤ length l.tokens;
  filled : 0 < length l.items.items;
}

abbrev pub decreases-items : goal.decreases-items
decreases-items g l = length l.rest
