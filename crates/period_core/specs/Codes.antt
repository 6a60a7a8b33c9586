-- The number and the name of each refusal, the same whatever it carries.
use Rattle.std.specs.Prelude.{ℕ, List, codes}
use Rattle.period_core.specs.declared.refusal.Refusal.{Refusal}
use Rattle.period_core.specs.declared.refusal.Refusal.TheVariants.{NotUtf8, ScriptTooLarge}
use Rattle.period_core.specs.declared.refusal.Refusal.TheVariants.{BadToken, Syntax, TooDeep}
use Rattle.period_core.specs.declared.refusal.Refusal.TheVariants.{BadDate, BadMoment, NumberRange}
use Rattle.period_core.specs.declared.refusal.Refusal.TheVariants.{LimitReached, TableExists}
use Rattle.period_core.specs.declared.refusal.Refusal.TheVariants.{UnknownTable, UnknownColumn}
use Rattle.period_core.specs.declared.refusal.Refusal.TheVariants.{AmbiguousColumn, DuplicateName}
use Rattle.period_core.specs.declared.refusal.Refusal.TheVariants.{PeriodColumn, BadDefinition}
use Rattle.period_core.specs.declared.refusal.Refusal.TheVariants.{ColumnCount, TypeMismatch}
use Rattle.period_core.specs.declared.refusal.Refusal.TheVariants.{TextTooLong, MomentBack}
use Rattle.period_core.specs.declared.refusal.Refusal.TheVariants.{EmptyPeriod, KeyOverlap}
use Rattle.period_core.specs.declared.refusal.Refusal.TheVariants.{PeriodReference, BadStore}
use Rattle.period_core.specs.declared.refusal.Refusal.TheVariants.{Memory, Store}

-- the numbers of refusals: of several, the one with the least number is answered
abbrev pub code_of : Refusal → ℕ
code_of NotUtf8 = 1
code_of ScriptTooLarge = 2
code_of (BadToken offset) = 3
code_of Syntax = 10
code_of TooDeep = 11
code_of BadDate = 12
code_of BadMoment = 13
code_of NumberRange = 14
code_of LimitReached = 21
code_of TableExists = 22
code_of UnknownTable = 23
code_of UnknownColumn = 24
code_of AmbiguousColumn = 25
code_of DuplicateName = 26
code_of PeriodColumn = 27
code_of BadDefinition = 28
code_of ColumnCount = 29
code_of TypeMismatch = 30
code_of TextTooLong = 31
code_of MomentBack = 40
code_of EmptyPeriod = 41
code_of (KeyOverlap day) = 42
code_of (PeriodReference day) = 43
code_of BadStore = 60
code_of Memory = 61
code_of Store = 62

-- the name, as a report prints it
abbrev pub name_of : Refusal → List ℕ
name_of NotUtf8 = codes "NotUtf8"
name_of ScriptTooLarge = codes "ScriptTooLarge"
name_of (BadToken offset) = codes "BadToken"
name_of Syntax = codes "Syntax"
name_of TooDeep = codes "TooDeep"
name_of BadDate = codes "BadDate"
name_of BadMoment = codes "BadMoment"
name_of NumberRange = codes "NumberRange"
name_of LimitReached = codes "LimitReached"
name_of TableExists = codes "TableExists"
name_of UnknownTable = codes "UnknownTable"
name_of UnknownColumn = codes "UnknownColumn"
name_of AmbiguousColumn = codes "AmbiguousColumn"
name_of DuplicateName = codes "DuplicateName"
name_of PeriodColumn = codes "PeriodColumn"
name_of BadDefinition = codes "BadDefinition"
name_of ColumnCount = codes "ColumnCount"
name_of TypeMismatch = codes "TypeMismatch"
name_of TextTooLong = codes "TextTooLong"
name_of MomentBack = codes "MomentBack"
name_of EmptyPeriod = codes "EmptyPeriod"
name_of (KeyOverlap day) = codes "KeyOverlap"
name_of (PeriodReference day) = codes "PeriodReference"
name_of BadStore = codes "BadStore"
name_of Memory = codes "Memory"
name_of Store = codes "Store"
