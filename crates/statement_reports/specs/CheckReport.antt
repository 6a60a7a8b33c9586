-- The report of a check as bytes, a function of the list of results.
use Rattle.std.specs.Prelude.{◌+◌, ◌∷◌, ◌++◌, ℕ, List, [], Result, Ok, Err, codes, count_by, is_err}
use Rattle.std.specs.Prelude.{length}
use Rattle.std.specs.Fmt.{decimal}
use Rattle.period_core.specs.declared.refusal.Refusal.{Refusal}
use Rattle.statement_reports.specs.Report.{record_text, refused_record}

-- the record of the n-th statement, if it is refused
abbrev pub refusal_text : ℕ → Result (Unit {0}) Refusal → List ℕ
refusal_text n (Ok nothing) = []
refusal_text n (Err refusal) = record_text (refused_record n refusal)

-- the records of the refused statements, numbered from the first number on
abbrev pub refusals_from : ℕ → List (Result (Unit {0}) Refusal) → List ℕ
refusals_from n [] = []
refusals_from n (result ∷ results) = refusal_text n result ++ refusals_from (n + 1) results

-- the number of statements, and of those that are refused
abbrev pub checked_record : List (Result (Unit {0}) Refusal) → List (List ℕ)
checked_record results =
    codes "checked" ∷ decimal (length results) ∷ decimal (count_by is_err results) ∷ []

-- the report of a check: the refused statements, numbered among all from 1, and then the counts
abbrev pub check_text : List (Result (Unit {0}) Refusal) → List ℕ
check_text results = refusals_from 1 results ++ record_text (checked_record results)
