-- Statements as plain trees. What has no condition in it is as the program's own types have it.
use Rattle.std.specs.Prelude.{ℕ, ℤ, List, [], ◌∷◌, Option}
use Rattle.sql_statements.specs.declared.create.CreateTable.{CreateTable}
use Rattle.sql_statements.specs.declared.statement.Assignment.{Assignment}
use Rattle.sql_statements.specs.declared.statement.Compare.{Compare}
use Rattle.sql_statements.specs.declared.statement.InsertRows.{InsertRows}
use Rattle.sql_statements.specs.declared.statement.Portion.{Portion}
use Rattle.sql_statements.specs.declared.statement.SelectItem.{SelectItem}
use Rattle.sql_statements.specs.declared.statement.StoredTest.{StoredTest}
use Rattle.sql_statements.specs.declared.statement.SystemTime.{SystemTime}
use Rattle.sql_statements.specs.declared.statement.TableReference.{TableReference}
use Rattle.sql_statements.specs.declared.tree.SetOperator.{SetOperator}

-- ---- conditions

mutual
  -- a condition over tests: a chain of OR or of AND is a list
  pub data Condition (T : Type 0) : Type 0 where
    any : Conditions T → Condition T
    all : Conditions T → Condition T
    negated : Condition T → Condition T
    test : T → Condition T

  -- the parts of a chain, in their order
  pub data Conditions (T : Type 0) : Type 0 where
    none : Conditions T
    more : Condition T → Conditions T → Conditions T

-- conditions in their order
abbrev pub conditions_of : {T : Type 0} → List (Condition T) → Conditions T
conditions_of [] = none
conditions_of (c ∷ cs) = more c (conditions_of cs)

-- ---- queries

-- a table that is joined, with its condition
pub record Join : Type 0 where
  pub reference : TableReference
  pub condition : Condition Compare

-- tables that are joined from left to right
pub record JoinChain : Type 0 where
  pub first : TableReference
  pub joins : List Join

-- SELECT DISTINCT: the items, the tables, and what is asked of their rows
pub record Select : Type 0 where
  pub items : List SelectItem
  pub chains : List JoinChain
  pub condition : Option (Condition Compare)

mutual
  -- a query over selects: set operators apply from left to right
  pub data Query : Type 0 where
    simple : Select → Query
    combined : Query → Steps → Query

  -- set operators with the queries after them
  pub data Steps : Type 0 where
    last : Steps
    step : SetOperator → Query → Steps → Steps

-- ---- statements

-- UPDATE: the columns' new values, for the rows that meet the condition, in the portion
pub record Update : Type 0 where
  pub table : List ℕ
  pub portion : Option Portion
  pub assignments : List Assignment
  pub condition : Option (Condition Compare)

-- DELETE of the rows that meet the condition, in the portion
pub record Delete : Type 0 where
  pub table : List ℕ
  pub portion : Option Portion
  pub condition : Option (Condition Compare)

-- SELECT * of the versions that the window sees and that meet the condition
pub record Stored : Type 0 where
  pub table : List ℕ
  pub window : Option SystemTime
  pub condition : Option (Condition StoredTest)

-- a statement
pub data Statement : Type 0 where
  at : ℤ → Statement
  create : CreateTable → Statement
  insert : InsertRows → Statement
  update : Update → Statement
  delete : Delete → Statement
  sequenced : Query → Statement
  stored : Stored → Statement
