use Rattle.std.proofs.Common.{◌≡◌, ◌+◌, ◌*◌, ◌≤◌, ◌∷◌, map, length, codes}
use Rattle.sql_front.specs.Language.{keyword}
use Rattle.sql_statements.specs.Lexemes.{lexemes}
use Rattle.sql_statements.specs.Plain.{plain_condition}
use Rattle.sql_front.specs.reading.Reading.{separated_read}
use Rattle.sql_front.specs.reading.ConditionReaders.{factor_read, conjunction_read}
use Rattle.sql_front.proofs.Loop.{Goes}
use Rattle.sql_front.proofs.conditions.+conditions.Given as goal

abbrev pub decreases-read_condition : goal.decreases-read_condition
decreases-read_condition g l = 5 * l.depth + 4

abbrev pub decreases-read_conjunction : goal.decreases-read_conjunction
decreases-read_conjunction g l = 5 * l.depth + 3

abbrev pub decreases-read_factor : goal.decreases-read_factor
decreases-read_factor g l = 5 * l.depth + 2

abbrev pub decreases-read_test : goal.decreases-read_test
decreases-read_test g l = 5 * l.depth + 1

abbrev pub decreases-read_nested : goal.decreases-read_nested
decreases-read_nested g l = 5 * l.depth

abbrev pub invariant-read_condition-others : goal.invariant-read_condition-others
invariant-read_condition-others g l = record {
  goes : Goes (keyword (codes "OR")) (conjunction_read g.T.Test.reader l.depth) (plain_condition l.initial.first ∷ map plain_condition l.others.items) (lexemes l.rest) (separated_read (keyword (codes "OR")) (conjunction_read g.T.Test.reader l.depth) (lexemes l.tokens));
  rest : length l.rest ≤ length l.tokens;
  first : l.first ≡ l.initial.first;
}

abbrev pub decreases-read_condition-others : goal.decreases-read_condition-others
decreases-read_condition-others g l = length l.rest

abbrev pub invariant-read_conjunction-others : goal.invariant-read_conjunction-others
invariant-read_conjunction-others g l = record {
  goes : Goes (keyword (codes "AND")) (factor_read g.T.Test.reader l.depth) (plain_condition l.initial.first ∷ map plain_condition l.others.items) (lexemes l.rest) (separated_read (keyword (codes "AND")) (factor_read g.T.Test.reader l.depth) (lexemes l.tokens));
  rest : length l.rest ≤ length l.tokens;
  first : l.first ≡ l.initial.first;
}

abbrev pub decreases-read_conjunction-others : goal.decreases-read_conjunction-others
decreases-read_conjunction-others g l = length l.rest
