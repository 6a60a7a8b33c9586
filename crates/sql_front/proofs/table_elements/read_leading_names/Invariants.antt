use Rattle.std.proofs.Common.{◌≤◌, ◌<◌, length}
use Rattle.sql_statements.specs.Lexemes.{lexemes}
use Rattle.sql_front.specs.reading.ElementReaders.{leading_names_read}
use Rattle.sql_front.proofs.LeadingNames.{Leading}
use Rattle.sql_front.proofs.table_elements.read_leading_names.Given as goal

abbrev pub invariant-names : goal.invariant-names
invariant-names l = record {
  goes : Leading l.names.items (lexemes l.rest) (leading_names_read (lexemes l.tokens));
  rest : length l.rest ≤ length l.tokens;
  filled : 0 < length l.names.items;
}

abbrev pub decreases-names : goal.decreases-names
decreases-names l = length l.rest
