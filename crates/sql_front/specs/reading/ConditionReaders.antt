-- Reading conditions from the front.
use Rattle.std.specs.Prelude.{ℕ, zero, suc, Option, None, codes}
use Rattle.sql_statements.specs.declared.statement.ColumnReference.{ColumnReference}
use Rattle.sql_statements.specs.declared.statement.Compare.{Compare}
use Rattle.sql_statements.specs.declared.statement.Comparison.{Comparison}
use Rattle.sql_statements.specs.declared.statement.Comparison.TheVariants.{Equal, NotEqual, Less}
use Rattle.sql_statements.specs.declared.statement.Comparison.TheVariants.{LessOrEqual, Greater}
use Rattle.sql_statements.specs.declared.statement.Comparison.TheVariants.{GreaterOrEqual}
use Rattle.sql_statements.specs.declared.statement.Operand.{Operand}
use Rattle.sql_statements.specs.declared.statement.Operand.TheVariants.{Column, Literal}
use Rattle.sql_front.specs.Language.{keyword, symbol}
use Rattle.sql_statements.specs.Trees.{Condition, negated, test}
use Rattle.sql_front.specs.Builders.{column_reference_of, compare_of, all_of, any_of}
use Rattle.sql_front.specs.Grammar.{name}
use Rattle.sql_front.specs.reading.Reading.{Reader, begins, sequence_read, built_read, choice_read}
use Rattle.sql_front.specs.reading.Reading.{optional_read, preceded_read, separated_read}
use Rattle.sql_front.specs.reading.Reading.{enclosed_read, denotes_read}
use Rattle.sql_front.specs.reading.Leaves.{name_read, literal_read}

-- name [ '.' name ]
unfoldable pub column_read : Reader ColumnReference
column_read =
    built_read column_reference_of
    (sequence_read name_read (optional_read (symbol (codes "."))
    (preceded_read (symbol (codes ".")) name_read)))

-- a column, if a name is first, or else a literal
unfoldable pub operand_read : Reader Operand
operand_read =
    choice_read (begins name) (built_read Column column_read) (built_read Literal literal_read)

-- '=' | '<>' | '<' | '<=' | '>' | '>='
unfoldable pub comparison_read : Reader Comparison
comparison_read =
    choice_read (begins (symbol (codes "="))) (denotes_read Equal (symbol (codes "=")))
    (choice_read (begins (symbol (codes "<>"))) (denotes_read NotEqual (symbol (codes "<>")))
    (choice_read (begins (symbol (codes "<"))) (denotes_read Less (symbol (codes "<")))
    (choice_read (begins (symbol (codes "<="))) (denotes_read LessOrEqual (symbol (codes "<=")))
    (choice_read (begins (symbol (codes ">"))) (denotes_read Greater (symbol (codes ">")))
    (denotes_read GreaterOrEqual (symbol (codes ">=")))))))

-- operand comparison operand
unfoldable pub compare_read : Reader Compare
compare_read =
    built_read compare_of (sequence_read operand_read (sequence_read comparison_read operand_read))

-- ---- trees over tests that are read so

-- a test, or a condition in parentheses
abbrev pub test_with : {T : Type 0} → Reader T → Reader (Condition T) → Reader (Condition T)
test_with p inner =
    choice_read (begins (symbol (codes "("))) (enclosed_read inner) (built_read test p)

-- [ NOT ] test
abbrev pub factor_with : {T : Type 0} → Reader (Condition T) → Reader (Condition T)
factor_with p =
    choice_read (begins (keyword (codes "NOT")))
    (built_read negated (preceded_read (keyword (codes "NOT")) p)) p

-- factor { AND factor }
abbrev pub conjunction_with : {T : Type 0} → Reader (Condition T) → Reader (Condition T)
conjunction_with p = built_read all_of (separated_read (keyword (codes "AND")) p)

-- conjunction { OR conjunction }
abbrev pub condition_with : {T : Type 0} → Reader (Condition T) → Reader (Condition T)
condition_with p = built_read any_of (separated_read (keyword (codes "OR")) p)

-- a condition whose parentheses nest less than n deep
unfoldable pub inner_read : {T : Type 0} → Reader T → ℕ → Reader (Condition T)
inner_read p zero ts = None
inner_read p (suc n) ts =
    condition_with (conjunction_with (factor_with (test_with p (inner_read p n)))) ts

-- a test, or in parentheses a condition that nests less than n deep
unfoldable pub test_read : {T : Type 0} → Reader T → ℕ → Reader (Condition T)
test_read p n = test_with p (inner_read p n)

-- a factor over tests whose parentheses nest at most n deep
unfoldable pub factor_read : {T : Type 0} → Reader T → ℕ → Reader (Condition T)
factor_read p n = factor_with (test_read p n)

-- a conjunction of factors, each perhaps after NOT
unfoldable pub conjunction_read : {T : Type 0} → Reader T → ℕ → Reader (Condition T)
conjunction_read p n = conjunction_with (factor_read p n)

-- a condition whose parentheses nest at most n deep
unfoldable pub condition_read : {T : Type 0} → Reader T → ℕ → Reader (Condition T)
condition_read p n = condition_with (conjunction_read p n)

-- [ WHERE cond ]
unfoldable pub where_read : {T : Type 0} → Reader T → ℕ → Reader (Option (Condition T))
where_read p n =
    optional_read (keyword (codes "WHERE"))
    (preceded_read (keyword (codes "WHERE")) (condition_read p n))
