-- The grammar as it is read, if a literal that names no value has a stand-in.
use Rattle.std.specs.Prelude.{ℕ, ℤ, List}
use Rattle.period_core.specs.declared.value.Value.{Value}
use Rattle.sql_statements.specs.declared.create.ColumnElement.{ColumnElement}
use Rattle.sql_statements.specs.declared.create.CreateTable.{CreateTable}
use Rattle.sql_statements.specs.declared.create.Generated.{Generated}
use Rattle.sql_statements.specs.declared.create.KeyElement.{KeyElement}
use Rattle.sql_statements.specs.declared.create.PeriodElement.{PeriodElement}
use Rattle.sql_statements.specs.declared.create.ReferenceElement.{ReferenceElement}
use Rattle.sql_statements.specs.declared.create.SystemElement.{SystemElement}
use Rattle.sql_statements.specs.declared.create.TypeName.{TypeName}
use Rattle.sql_statements.specs.declared.statement.Assignment.{Assignment}
use Rattle.sql_statements.specs.declared.statement.ColumnReference.{ColumnReference}
use Rattle.sql_statements.specs.declared.statement.Compare.{Compare}
use Rattle.sql_statements.specs.declared.statement.Comparison.{Comparison}
use Rattle.sql_statements.specs.declared.statement.InsertRows.{InsertRows}
use Rattle.sql_statements.specs.declared.statement.Operand.{Operand}
use Rattle.sql_statements.specs.declared.statement.PeriodOperand.{PeriodOperand}
use Rattle.sql_statements.specs.declared.statement.PeriodPredicate.{PeriodPredicate}
use Rattle.sql_statements.specs.declared.statement.Portion.{Portion}
use Rattle.sql_statements.specs.declared.statement.SelectItem.{SelectItem}
use Rattle.sql_statements.specs.declared.statement.StoredTest.{StoredTest}
use Rattle.sql_statements.specs.declared.statement.SystemTime.{SystemTime}
use Rattle.sql_statements.specs.declared.statement.TableReference.{TableReference}
use Rattle.sql_statements.specs.declared.tree.SetOperator.{SetOperator}
use Rattle.sql_front.specs.Language.{Language}
use Rattle.sql_statements.specs.Trees.{Join, JoinChain, Select, Query, Update, Delete, Stored, Statement}
use Rattle.sql_front.specs.Builders.{Element}
use Rattle.sql_front.specs.Placeholders.{placeholders}
use Rattle.sql_front.specs.Grammar as grammar

abbrev pub IsName : Language (List ℕ)
IsName = grammar.IsName placeholders

abbrev pub IsNumber : Language ℕ
IsNumber = grammar.IsNumber placeholders

abbrev pub IsMoment : Language ℤ
IsMoment = grammar.IsMoment placeholders

abbrev pub IsClockMoment : Language ℤ
IsClockMoment = grammar.IsClockMoment placeholders

abbrev pub IsDate : Language ℤ
IsDate = grammar.IsDate placeholders

abbrev pub IsLiteral : Language Value
IsLiteral = grammar.IsLiteral placeholders

abbrev pub IsNames : Language (List (List ℕ))
IsNames = grammar.IsNames placeholders

abbrev pub IsTuple : Language (List Value)
IsTuple = grammar.IsTuple placeholders

abbrev pub IsLength : Language ℕ
IsLength = grammar.IsLength placeholders

abbrev pub IsType : Language TypeName
IsType = grammar.IsType placeholders

abbrev pub IsGenerated : Language Generated
IsGenerated = grammar.IsGenerated placeholders

abbrev pub IsNotNull : Language (Unit {0})
IsNotNull = grammar.IsNotNull placeholders

abbrev pub IsColumnElement : Language ColumnElement
IsColumnElement = grammar.IsColumnElement placeholders

abbrev pub IsPair : Language (List ℕ × List ℕ)
IsPair = grammar.IsPair placeholders

abbrev pub IsPeriodElement : Language PeriodElement
IsPeriodElement = grammar.IsPeriodElement placeholders

abbrev pub IsSystemElement : Language SystemElement
IsSystemElement = grammar.IsSystemElement placeholders

abbrev pub IsWithoutOverlaps : Language (Unit {0})
IsWithoutOverlaps = grammar.IsWithoutOverlaps placeholders

abbrev pub IsKeyElement : Language KeyElement
IsKeyElement = grammar.IsKeyElement placeholders

abbrev pub IsReferenceList : Language (List (List ℕ) × List ℕ)
IsReferenceList = grammar.IsReferenceList placeholders

abbrev pub IsReferenceElement : Language ReferenceElement
IsReferenceElement = grammar.IsReferenceElement placeholders

abbrev pub IsElement : Language Element
IsElement = grammar.IsElement placeholders

abbrev pub IsVersioning : Language (Unit {0})
IsVersioning = grammar.IsVersioning placeholders

abbrev pub IsCreate : Language CreateTable
IsCreate = grammar.IsCreate placeholders

abbrev pub IsColumn : Language ColumnReference
IsColumn = grammar.IsColumn placeholders

abbrev pub IsOperand : Language Operand
IsOperand = grammar.IsOperand placeholders

abbrev pub IsComparison : Language Comparison
IsComparison = grammar.IsComparison placeholders

abbrev pub IsCompare : Language Compare
IsCompare = grammar.IsCompare placeholders

abbrev pub IsWindow : Language SystemTime
IsWindow = grammar.IsWindow placeholders

abbrev pub IsForWindow : Language SystemTime
IsForWindow = grammar.IsForWindow placeholders

abbrev pub IsNewName : Language (List ℕ)
IsNewName = grammar.IsNewName placeholders

abbrev pub IsReference : Language TableReference
IsReference = grammar.IsReference placeholders

abbrev pub IsJoin : ℕ → Language Join
IsJoin = grammar.IsJoin placeholders

abbrev pub IsChain : ℕ → Language JoinChain
IsChain = grammar.IsChain placeholders

abbrev pub IsItem : Language SelectItem
IsItem = grammar.IsItem placeholders

abbrev pub IsSelect : ℕ → Language Select
IsSelect = grammar.IsSelect placeholders

abbrev pub IsPrimary : ℕ → Language Query → Language Query
IsPrimary = grammar.IsPrimary placeholders

abbrev pub IsIntersection : ℕ → Language Query → Language (SetOperator × Query)
IsIntersection = grammar.IsIntersection placeholders

abbrev pub IsTerm : ℕ → Language Query → Language Query
IsTerm = grammar.IsTerm placeholders

abbrev pub IsStep : ℕ → Language Query → Language (SetOperator × Query)
IsStep = grammar.IsStep placeholders

abbrev pub IsQuery : ℕ → Language Query → Language Query
IsQuery = grammar.IsQuery placeholders

abbrev pub IsSequenced : ℕ → Language Query
IsSequenced = grammar.IsSequenced placeholders

abbrev pub IsPeriodOperand : Language PeriodOperand
IsPeriodOperand = grammar.IsPeriodOperand placeholders

abbrev pub IsRelation : Language PeriodPredicate
IsRelation = grammar.IsRelation placeholders

abbrev pub IsPredicate : Language StoredTest
IsPredicate = grammar.IsPredicate placeholders

abbrev pub IsStoredTest : Language StoredTest
IsStoredTest = grammar.IsStoredTest placeholders

abbrev pub IsStored : ℕ → Language Stored
IsStored = grammar.IsStored placeholders

abbrev pub IsInsert : Language InsertRows
IsInsert = grammar.IsInsert placeholders

abbrev pub IsPortion : Language Portion
IsPortion = grammar.IsPortion placeholders

abbrev pub IsAssignment : Language Assignment
IsAssignment = grammar.IsAssignment placeholders

abbrev pub IsUpdate : ℕ → Language Update
IsUpdate = grammar.IsUpdate placeholders

abbrev pub IsDelete : ℕ → Language Delete
IsDelete = grammar.IsDelete placeholders

abbrev pub IsAt : Language ℤ
IsAt = grammar.IsAt placeholders

abbrev pub StatementBelow : ℕ → Language Statement
StatementBelow = grammar.StatementBelow placeholders

abbrev pub IsStatement : Language Statement
IsStatement = grammar.Spells placeholders
