-- The grammar, production by production.
-- Braces repeat any number of times, brackets are optional, a bar chooses. What is in quotes is a
-- token.
use Rattle.std.specs.Prelude.{ℕ, zero, suc, ℤ, List, codes, Option, Bool, ◌&&◌}
use Rattle.period_core.specs.declared.value.Value.{Value}
use Rattle.period_core.specs.declared.value.Value.TheVariants as value
use Rattle.sql_statements.specs.declared.create.ColumnElement.{ColumnElement}
use Rattle.sql_statements.specs.declared.create.CreateTable.{CreateTable}
use Rattle.sql_statements.specs.declared.create.Generated.{Generated}
use Rattle.sql_statements.specs.declared.create.Generated.TheVariants.{Start, End}
use Rattle.sql_statements.specs.declared.create.KeyElement.{KeyElement}
use Rattle.sql_statements.specs.declared.create.PeriodElement.{PeriodElement}
use Rattle.sql_statements.specs.declared.create.ReferenceElement.{ReferenceElement}
use Rattle.sql_statements.specs.declared.create.SystemElement.{SystemElement}
use Rattle.sql_statements.specs.declared.create.TypeName.{TypeName}
use Rattle.sql_statements.specs.declared.create.TypeName.TheVariants.{Integer, Date, Varchar}
use Rattle.sql_statements.specs.declared.create.TypeName.TheVariants.{Timestamp}
use Rattle.sql_statements.specs.declared.statement.Assignment.{Assignment}
use Rattle.sql_statements.specs.declared.statement.ColumnReference.{ColumnReference}
use Rattle.sql_statements.specs.declared.statement.Compare.{Compare}
use Rattle.sql_statements.specs.declared.statement.Comparison.{Comparison}
use Rattle.sql_statements.specs.declared.statement.Comparison.TheVariants.{Equal, NotEqual, Less}
use Rattle.sql_statements.specs.declared.statement.Comparison.TheVariants.{LessOrEqual, Greater}
use Rattle.sql_statements.specs.declared.statement.Comparison.TheVariants.{GreaterOrEqual}
use Rattle.sql_statements.specs.declared.statement.InsertRows.{InsertRows}
use Rattle.sql_statements.specs.declared.statement.Operand.{Operand}
use Rattle.sql_statements.specs.declared.statement.Operand.TheVariants.{Column, Literal}
use Rattle.sql_statements.specs.declared.statement.PeriodOperand.{PeriodOperand}
use Rattle.sql_statements.specs.declared.statement.PeriodOperand.TheVariants.{Named}
use Rattle.sql_statements.specs.declared.statement.PeriodPredicate.{PeriodPredicate}
use Rattle.sql_statements.specs.declared.statement.PeriodPredicate.TheVariants.{Overlaps, Equals}
use Rattle.sql_statements.specs.declared.statement.PeriodPredicate.TheVariants.{Contains, Precedes}
use Rattle.sql_statements.specs.declared.statement.PeriodPredicate.TheVariants.{Succeeds}
use Rattle.sql_statements.specs.declared.statement.PeriodPredicate.TheVariants.{ImmediatelyPrecedes}
use Rattle.sql_statements.specs.declared.statement.PeriodPredicate.TheVariants.{ImmediatelySucceeds}
use Rattle.sql_statements.specs.declared.statement.Portion.{Portion}
use Rattle.sql_statements.specs.declared.statement.SelectItem.{SelectItem}
use Rattle.sql_statements.specs.declared.statement.StoredTest.{StoredTest}
use Rattle.sql_statements.specs.declared.statement.StoredTest.TheVariants.{Values}
use Rattle.sql_statements.specs.declared.statement.SystemTime.{SystemTime}
use Rattle.sql_statements.specs.declared.statement.SystemTime.TheVariants.{AsOf}
use Rattle.sql_statements.specs.declared.statement.TableReference.{TableReference}
use Rattle.sql_statements.specs.declared.tree.SetOperator.{SetOperator}
use Rattle.sql_statements.specs.declared.tree.SetOperator.TheVariants.{Union, Except, Intersect}
use Rattle.sql_statements.specs.Lexemes.{Lexeme}
use Rattle.sql_statements.specs.Names.{is_plain_word, upper}
use Rattle.sql_front.specs.Language.{Language, is_word, keyword, symbol, text, OneToken, Fixed}
use Rattle.sql_front.specs.Language.{Sequence, Built, Denotes, Choice, Repetition, Optional}
use Rattle.sql_front.specs.Language.{Preceded, PrecededOrNot, Separated, Enclosed}
use Rattle.sql_statements.specs.Trees.{Condition, negated, test, Join, JoinChain, Select, Query}
use Rattle.sql_statements.specs.Trees.{simple, Update, Delete, Stored, Statement, at, create}
use Rattle.sql_statements.specs.Trees.{insert, update, delete, sequenced, stored}
use Rattle.sql_front.specs.Builders.{number_of, text_of, column_of, period_of, system_of, key_of}
use Rattle.sql_front.specs.Builders.{reference_of, Element, column_element, period_element}
use Rattle.sql_front.specs.Builders.{system_element, key_element, reference_element, table_of}
use Rattle.sql_front.specs.Builders.{column_reference_of, compare_of, all_of, any_of, from_to_of}
use Rattle.sql_front.specs.Builders.{between_of, table_reference_of, join_of, chain_of, item_of}
use Rattle.sql_front.specs.Builders.{select_of, term_of, combined_of, dates_of, periods_of}
use Rattle.sql_front.specs.Builders.{contains_day_of, stored_of, rows_of, portion_of}
use Rattle.sql_front.specs.Builders.{assignment_of, update_of, delete_of}
use Rattle.sql_front.specs.Literals.{Literals, exact}

-- a word that is not reserved
abbrev pub name : Lexeme → Bool
name lexeme = is_word lexeme.kind && is_plain_word lexeme.text

-- the token that separates the items of a list
abbrev pub comma : Lexeme → Bool
comma = symbol (codes ",")

-- ==== conditions, over the tests of a language

-- test = '(' cond ')' | a test of this language
abbrev pub IsTest : {T : Type 0} → Language T → Language (Condition T) → Language (Condition T)
IsTest Test Inner = Choice (Enclosed Inner) (Built test Test)

-- factor = [ NOT ] test
abbrev pub IsFactor : {T : Type 0} → Language T → Language (Condition T) → Language (Condition T)
IsFactor Test Inner =
    Choice (Built negated (Preceded (keyword (codes "NOT")) (IsTest Test Inner)))
    (IsTest Test Inner)

-- conj = factor { AND factor }
abbrev pub IsConjunction :
    {T : Type 0} → Language T → Language (Condition T) → Language (Condition T)
IsConjunction Test Inner = Built all_of (Separated (keyword (codes "AND")) (IsFactor Test Inner))

-- cond = conj { OR conj }, over what is in parentheses
abbrev pub IsCondition : {T : Type 0} → Language T → Language (Condition T) → Language (Condition T)
IsCondition Test Inner = Built any_of (Separated (keyword (codes "OR")) (IsConjunction Test Inner))

-- a condition over these tests, whose parentheses nest less than so deep
unfoldable pub ConditionBelow : {T : Type 0} → Language T → ℕ → Language (Condition T)
ConditionBelow Test zero lexemes c = ⊥
ConditionBelow Test (suc n) lexemes c = IsCondition Test (ConditionBelow Test n) lexemes c

-- [ WHERE cond ]
abbrev pub IsWhere : {T : Type 0} → Language T → ℕ → Language (Option (Condition T))
IsWhere Test n = Optional (Preceded (keyword (codes "WHERE")) (ConditionBelow Test n))

-- the productions, by what literals mean
module _ (literals : Literals) where
  -- ==== names and literals

  -- name: a word that is not reserved, in upper case
  abbrev pub IsName : Language (List ℕ)
  IsName = Built upper (OneToken name)

  -- num
  abbrev pub IsNumber : Language ℕ
  IsNumber = literals.plain_number

  -- moment = TIMESTAMP text
  abbrev pub IsMoment : Language ℤ
  IsMoment = Preceded (keyword (codes "TIMESTAMP")) literals.moment

  -- a moment before the open end
  abbrev pub IsClockMoment : Language ℤ
  IsClockMoment = Preceded (keyword (codes "TIMESTAMP")) literals.clock_moment

  -- date = DATE text
  abbrev pub IsDate : Language ℤ
  IsDate = Preceded (keyword (codes "DATE")) literals.day

  -- literal = [ '+' | '-' ] num | text | date
  abbrev pub IsLiteral : Language Value
  IsLiteral =
      Choice (Built number_of (PrecededOrNot (symbol (codes "+")) IsNumber))
      (Choice (Built value.Int (Preceded (symbol (codes "-")) literals.minus_number))
      (Choice (Built text_of (OneToken text))
      (Built value.Date IsDate)))

  -- '(' name { ',' name } ')'
  abbrev pub IsNames : Language (List (List ℕ))
  IsNames = Enclosed (Separated comma IsName)

  -- tuple = '(' literal { ',' literal } ')'
  abbrev pub IsTuple : Language (List Value)
  IsTuple = Enclosed (Separated comma IsLiteral)

  -- ==== CREATE

  -- '(' num ')'
  abbrev pub IsLength : Language ℕ
  IsLength = Enclosed IsNumber

  -- type = INTEGER | DATE | VARCHAR '(' num ')'
  --      | CHARACTER VARYING '(' num ')' | TIMESTAMP [ '(' num ')' ]
  abbrev pub IsType : Language TypeName
  IsType =
      Choice (Denotes Integer (keyword (codes "INTEGER")))
      (Choice (Denotes Date (keyword (codes "DATE")))
      (Choice (Built Varchar (Preceded (keyword (codes "VARCHAR")) IsLength))
      (Choice (Built Varchar (Preceded (keyword (codes "CHARACTER"))
      (Preceded (keyword (codes "VARYING")) IsLength)))
      (Built Timestamp (Preceded (keyword (codes "TIMESTAMP")) (Optional IsLength))))))

  -- GENERATED ALWAYS AS ROW ( START | END )
  abbrev pub IsGenerated : Language Generated
  IsGenerated =
      Preceded (keyword (codes "GENERATED")) (Preceded (keyword (codes "ALWAYS"))
      (Preceded (keyword (codes "AS")) (Preceded (keyword (codes "ROW"))
      (Choice (Denotes Start (keyword (codes "START")))
      (Denotes End (keyword (codes "END")))))))

  -- NOT NULL: no column holds NULL, so it adds nothing
  abbrev pub IsNotNull : Language (Unit {0})
  IsNotNull = Preceded (keyword (codes "NOT")) (Fixed (keyword (codes "NULL")))

  -- name type [ GENERATED ALWAYS AS ROW ( START | END ) ] [ NOT NULL ]
  abbrev pub IsColumnElement : Language ColumnElement
  IsColumnElement =
      Built column_of (Sequence IsName (Sequence IsType
      (Sequence (Optional IsGenerated) (Optional IsNotNull))))

  -- '(' name ',' name ')'
  abbrev pub IsPair : Language (List ℕ × List ℕ)
  IsPair = Enclosed (Sequence IsName (Preceded comma IsName))

  -- PERIOD FOR name '(' name ',' name ')'
  abbrev pub IsPeriodElement : Language PeriodElement
  IsPeriodElement =
      Preceded (keyword (codes "PERIOD")) (Preceded (keyword (codes "FOR"))
      (Built period_of (Sequence IsName IsPair)))

  -- PERIOD FOR SYSTEM_TIME '(' name ',' name ')'
  abbrev pub IsSystemElement : Language SystemElement
  IsSystemElement =
      Preceded (keyword (codes "PERIOD")) (Preceded (keyword (codes "FOR"))
      (Preceded (keyword (codes "SYSTEM_TIME")) (Built system_of IsPair)))

  -- WITHOUT OVERLAPS
  abbrev pub IsWithoutOverlaps : Language (Unit {0})
  IsWithoutOverlaps = Preceded (keyword (codes "WITHOUT")) (Fixed (keyword (codes "OVERLAPS")))

  -- PRIMARY KEY '(' name { ',' name } ',' name WITHOUT OVERLAPS ')'
  abbrev pub IsKeyElement : Language KeyElement
  IsKeyElement =
      Preceded (keyword (codes "PRIMARY")) (Preceded (keyword (codes "KEY"))
      (Enclosed (Built key_of
      (Sequence (Sequence (Separated comma IsName) (Preceded comma IsName)) IsWithoutOverlaps))))

  -- '(' name { ',' name } ',' PERIOD name ')'
  abbrev pub IsReferenceList : Language (List (List ℕ) × List ℕ)
  IsReferenceList =
      Enclosed (Sequence (Separated comma IsName)
      (Preceded comma (Preceded (keyword (codes "PERIOD")) IsName)))

  -- FOREIGN KEY '(' name { ',' name } ',' PERIOD name ')'
  -- REFERENCES name '(' name { ',' name } ',' PERIOD name ')'
  abbrev pub IsReferenceElement : Language ReferenceElement
  IsReferenceElement =
      Preceded (keyword (codes "FOREIGN")) (Preceded (keyword (codes "KEY"))
      (Built reference_of (Sequence IsReferenceList
      (Preceded (keyword (codes "REFERENCES")) (Sequence IsName IsReferenceList)))))

  -- element = column | period | system period | key | reference
  abbrev pub IsElement : Language Element
  IsElement =
      Choice (Built column_element IsColumnElement)
      (Choice (Built system_element IsSystemElement)
      (Choice (Built period_element IsPeriodElement)
      (Choice (Built key_element IsKeyElement)
      (Built reference_element IsReferenceElement))))

  -- WITH SYSTEM VERSIONING
  abbrev pub IsVersioning : Language (Unit {0})
  IsVersioning =
      Preceded (keyword (codes "WITH")) (Preceded (keyword (codes "SYSTEM"))
      (Fixed (keyword (codes "VERSIONING"))))

  -- create = CREATE TABLE name '(' element { ',' element } ')' WITH SYSTEM VERSIONING
  abbrev pub IsCreate : Language CreateTable
  IsCreate =
      Preceded (keyword (codes "CREATE")) (Preceded (keyword (codes "TABLE"))
      (Built table_of (Sequence IsName
      (Sequence (Enclosed (Separated comma IsElement)) IsVersioning))))

  -- ==== comparisons

  -- column = name [ '.' name ]
  abbrev pub IsColumn : Language ColumnReference
  IsColumn =
      Built column_reference_of (Sequence IsName (Optional (Preceded (symbol (codes ".")) IsName)))

  -- operand = column | literal
  abbrev pub IsOperand : Language Operand
  IsOperand = Choice (Built Column IsColumn) (Built Literal IsLiteral)

  -- cmp = '=' | '<>' | '<' | '<=' | '>' | '>='
  abbrev pub IsComparison : Language Comparison
  IsComparison =
      Choice (Denotes Equal (symbol (codes "=")))
      (Choice (Denotes NotEqual (symbol (codes "<>")))
      (Choice (Denotes Less (symbol (codes "<")))
      (Choice (Denotes LessOrEqual (symbol (codes "<=")))
      (Choice (Denotes Greater (symbol (codes ">")))
      (Denotes GreaterOrEqual (symbol (codes ">=")))))))

  -- operand cmp operand
  abbrev pub IsCompare : Language Compare
  IsCompare = Built compare_of (Sequence IsOperand (Sequence IsComparison IsOperand))

  -- ==== queries

  -- window = AS OF moment | FROM moment TO moment | BETWEEN moment AND moment
  abbrev pub IsWindow : Language SystemTime
  IsWindow =
      Choice (Built AsOf
      (Preceded (keyword (codes "AS")) (Preceded (keyword (codes "OF")) IsClockMoment)))
      (Choice (Built from_to_of
      (Preceded (keyword (codes "FROM"))
      (Sequence IsMoment (Preceded (keyword (codes "TO")) IsMoment))))
      (Built between_of
      (Preceded (keyword (codes "BETWEEN"))
      (Sequence IsMoment (Preceded (keyword (codes "AND")) IsMoment)))))

  -- FOR SYSTEM_TIME window
  abbrev pub IsForWindow : Language SystemTime
  IsForWindow = Preceded (keyword (codes "FOR")) (Preceded (keyword (codes "SYSTEM_TIME")) IsWindow)

  -- [ AS ] name
  abbrev pub IsNewName : Language (List ℕ)
  IsNewName = PrecededOrNot (keyword (codes "AS")) IsName

  -- ref = name [ FOR SYSTEM_TIME window ] [ [ AS ] name ]
  abbrev pub IsReference : Language TableReference
  IsReference =
      Built table_reference_of (Sequence IsName
      (Sequence (Optional IsForWindow) (Optional IsNewName)))

  -- [ INNER ] JOIN ref ON cond
  abbrev pub IsJoin : ℕ → Language Join
  IsJoin n =
      Built join_of (PrecededOrNot (keyword (codes "INNER")) (Preceded (keyword (codes "JOIN"))
      (Sequence IsReference (Preceded (keyword (codes "ON")) (ConditionBelow IsCompare n)))))

  -- chain = ref { [ INNER ] JOIN ref ON cond }
  abbrev pub IsChain : ℕ → Language JoinChain
  IsChain n = Built chain_of (Sequence IsReference (Repetition (IsJoin n)))

  -- item = column [ [ AS ] name ]
  abbrev pub IsItem : Language SelectItem
  IsItem = Built item_of (Sequence IsColumn (Optional IsNewName))

  -- select = SELECT DISTINCT item { ',' item } FROM chain { ',' chain } [ WHERE cond ]
  abbrev pub IsSelect : ℕ → Language Select
  IsSelect n =
      Preceded (keyword (codes "SELECT")) (Preceded (keyword (codes "DISTINCT"))
      (Built select_of (Sequence (Separated comma IsItem)
      (Preceded (keyword (codes "FROM"))
      (Sequence (Separated comma (IsChain n)) (IsWhere IsCompare n))))))

  -- primary = select | '(' query ')'
  abbrev pub IsPrimary : ℕ → Language Query → Language Query
  IsPrimary n Inner = Choice (Enclosed Inner) (Built simple (IsSelect n))

  -- INTERSECT [ DISTINCT ] primary
  abbrev pub IsIntersection : ℕ → Language Query → Language (SetOperator × Query)
  IsIntersection n Inner =
      Sequence (Denotes Intersect (keyword (codes "INTERSECT")))
      (PrecededOrNot (keyword (codes "DISTINCT")) (IsPrimary n Inner))

  -- term = primary { INTERSECT [ DISTINCT ] primary }
  abbrev pub IsTerm : ℕ → Language Query → Language Query
  IsTerm n Inner =
      Built term_of (Sequence (IsPrimary n Inner) (Repetition (IsIntersection n Inner)))

  -- ( UNION | EXCEPT ) [ DISTINCT ] term
  abbrev pub IsStep : ℕ → Language Query → Language (SetOperator × Query)
  IsStep n Inner =
      Sequence (Choice (Denotes Union (keyword (codes "UNION")))
      (Denotes Except (keyword (codes "EXCEPT"))))
      (PrecededOrNot (keyword (codes "DISTINCT")) (IsTerm n Inner))

  -- query = term { ( UNION | EXCEPT ) [ DISTINCT ] term }, over what is in parentheses
  abbrev pub IsQuery : ℕ → Language Query → Language Query
  IsQuery n Inner = Built combined_of (Sequence (IsTerm n Inner) (Repetition (IsStep n Inner)))

  -- a query whose parentheses nest less than so deep, its conditions' too
  unfoldable pub QueryBelow : ℕ → Language Query
  QueryBelow zero lexemes q = ⊥
  QueryBelow (suc n) lexemes q = IsQuery (suc n) (QueryBelow n) lexemes q

  -- sequenced = VALIDTIME query
  abbrev pub IsSequenced : ℕ → Language Query
  IsSequenced n = Preceded (keyword (codes "VALIDTIME")) (QueryBelow n)

  -- ==== stored queries

  -- span = column | PERIOD '(' date ',' date ')'
  abbrev pub IsPeriodOperand : Language PeriodOperand
  IsPeriodOperand =
      Choice (Built dates_of (Preceded (keyword (codes "PERIOD"))
      (Enclosed (Sequence IsDate (Preceded comma IsDate)))))
      (Built Named IsColumn)

  -- OVERLAPS | EQUALS | CONTAINS | [ IMMEDIATELY ] ( PRECEDES | SUCCEEDS )
  abbrev pub IsRelation : Language PeriodPredicate
  IsRelation =
      Choice (Denotes Overlaps (keyword (codes "OVERLAPS")))
      (Choice (Denotes Equals (keyword (codes "EQUALS")))
      (Choice (Denotes Contains (keyword (codes "CONTAINS")))
      (Choice (Preceded (keyword (codes "IMMEDIATELY"))
      (Choice (Denotes ImmediatelyPrecedes (keyword (codes "PRECEDES")))
      (Denotes ImmediatelySucceeds (keyword (codes "SUCCEEDS")))))
      (Choice (Denotes Precedes (keyword (codes "PRECEDES")))
      (Denotes Succeeds (keyword (codes "SUCCEEDS")))))))

  -- pred = span ( OVERLAPS | EQUALS ) span
  --      | span CONTAINS ( span | date )
  --      | span [ IMMEDIATELY ] ( PRECEDES | SUCCEEDS ) span
  -- (first the predicates of two spans, then the one of a span and a date)
  abbrev pub IsPredicate : Language StoredTest
  IsPredicate =
      Choice (Built periods_of (Sequence IsPeriodOperand (Sequence IsRelation IsPeriodOperand)))
      (Built contains_day_of (Sequence IsPeriodOperand
      (Preceded (keyword (codes "CONTAINS")) IsDate)))

  -- pcond = cond, in which a test may also be pred
  -- (here the tests that are not in parentheses: pred | operand cmp operand)
  abbrev pub IsStoredTest : Language StoredTest
  IsStoredTest = Choice IsPredicate (Built Values IsCompare)

  -- stored = SELECT '*' FROM name [ FOR SYSTEM_TIME window ] [ WHERE pcond ]
  abbrev pub IsStored : ℕ → Language Stored
  IsStored n =
      Preceded (keyword (codes "SELECT")) (Preceded (symbol (codes "*"))
      (Preceded (keyword (codes "FROM")) (Built stored_of (Sequence IsName
      (Sequence (Optional IsForWindow) (IsWhere IsStoredTest n))))))

  -- ==== changes

  -- insert = INSERT INTO name [ '(' name { ',' name } ')' ] VALUES tuple { ',' tuple }
  abbrev pub IsInsert : Language InsertRows
  IsInsert =
      Preceded (keyword (codes "INSERT")) (Preceded (keyword (codes "INTO"))
      (Built rows_of (Sequence IsName (Sequence (Optional IsNames)
      (Preceded (keyword (codes "VALUES")) (Separated comma IsTuple))))))

  -- portion = FOR PORTION OF name FROM date TO date
  abbrev pub IsPortion : Language Portion
  IsPortion =
      Preceded (keyword (codes "FOR")) (Preceded (keyword (codes "PORTION"))
      (Preceded (keyword (codes "OF"))
      (Built portion_of (Sequence IsName (Preceded (keyword (codes "FROM"))
      (Sequence IsDate (Preceded (keyword (codes "TO")) IsDate)))))))

  -- assign = name '=' literal
  abbrev pub IsAssignment : Language Assignment
  IsAssignment = Built assignment_of (Sequence IsName (Preceded (symbol (codes "=")) IsLiteral))

  -- update = UPDATE name [ portion ] SET assign { ',' assign } [ WHERE cond ]
  abbrev pub IsUpdate : ℕ → Language Update
  IsUpdate n =
      Preceded (keyword (codes "UPDATE"))
      (Built update_of (Sequence IsName (Sequence (Optional IsPortion)
      (Preceded (keyword (codes "SET"))
      (Sequence (Separated comma IsAssignment) (IsWhere IsCompare n))))))

  -- delete = DELETE FROM name [ portion ] [ WHERE cond ]
  abbrev pub IsDelete : ℕ → Language Delete
  IsDelete n =
      Preceded (keyword (codes "DELETE")) (Preceded (keyword (codes "FROM"))
      (Built delete_of (Sequence IsName (Sequence (Optional IsPortion) (IsWhere IsCompare n)))))

  -- at = AT moment
  abbrev pub IsAt : Language ℤ
  IsAt = Preceded (keyword (codes "AT")) IsClockMoment

  -- ==== statements

  -- a statement whose parentheses nest less than so deep
  abbrev pub StatementBelow : ℕ → Language Statement
  StatementBelow n =
      Choice (Built at IsAt)
      (Choice (Built create IsCreate)
      (Choice (Built insert IsInsert)
      (Choice (Built update (IsUpdate n))
      (Choice (Built delete (IsDelete n))
      (Choice (Built sequenced (IsSequenced n))
      (Built stored (IsStored n)))))))

  -- statement = at | create | insert | update | delete | sequenced | stored:
  -- the tokens spell this one
  abbrev pub Spells : Language Statement
  Spells lexemes statement = (n : ℕ) × StatementBelow n lexemes statement

-- the tokens spell this statement, and each literal is the value that it names
abbrev pub IsStatement : Language Statement
IsStatement = Spells exact
