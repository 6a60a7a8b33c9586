-- The report as bytes, a function of the list of results.
use Rattle.std.specs.Prelude.{◌==◌, ◌||◌, ◌+◌, ◌∷◌, ◌++◌, ℕ, ℤ, Bool, List, [], ⊤, if◌then◌else◌}
use Rattle.std.specs.Prelude.{Option, Some, None, Result, Ok, Err, flat_map, length, map, codes}
use Rattle.std.specs.Prelude.{slice_get}
use Rattle.std.specs.Fmt.{decimal, signed_decimal}
use Rattle.std.specs.List.{list_any, zip}
use Rattle.period_core.specs.Calendar.{day_text}
use Rattle.period_core.specs.Codes.{code_of, name_of}
use Rattle.period_core.specs.Moments.{moment_text}
use Rattle.period_core.specs.declared.answer.Answer.{Answer}
use Rattle.period_core.specs.declared.answer.Witness.{Witness}
use Rattle.period_core.specs.declared.refusal.Refusal.{Refusal}
use Rattle.period_core.specs.declared.refusal.Refusal.TheVariants.{KeyOverlap, PeriodReference}
use Rattle.period_core.specs.declared.row.PeriodRow.{PeriodRow}
use Rattle.period_core.specs.declared.value.Value.{Value}
use Rattle.period_core.specs.declared.value.Value.TheVariants.{Int, Text, Date}
use Rattle.period_core.specs.declared.version.VersionRow.{VersionRow}
use Rattle.statement_reports.specs.declared.outcome.Cell.{Cell}
use Rattle.statement_reports.specs.declared.outcome.Cell.TheVariants as cell
use Rattle.statement_reports.specs.declared.outcome.Outcome.{Outcome}
use Rattle.statement_reports.specs.declared.outcome.Outcome.TheVariants as outcome
use Rattle.statement_reports.specs.declared.outcome.VersionColumn.{VersionColumn}
use Rattle.statement_reports.specs.declared.outcome.VersionList.{VersionList}
use Rattle.statement_reports.specs.declared.outcome.Word.{Word}
use Rattle.statement_reports.specs.declared.outcome.Word.TheVariants.{At, Create, Delete}
use Rattle.statement_reports.specs.declared.outcome.Word.TheVariants.{Insert, Update}
use Rattle.statement_reports.specs.declared.fault.ReportFault.{ReportFault}
use Rattle.statement_reports.specs.declared.fault.ReportFault.TheVariants.{Memory, Write}

-- `,`, between two fields
abbrev pub comma : ℕ
comma = 44

-- `"`, around a field
abbrev pub quote_mark : ℕ
quote_mark = 34

-- a carriage return, which ends no record, but is quoted in a field
abbrev pub carriage_return : ℕ
carriage_return = 13

-- a line feed, at the end of a record
abbrev pub line_feed : ℕ
line_feed = 10

-- the bytes that a field shows only between quotes
abbrev pub calls_for_quotes : ℕ → Bool
calls_for_quotes b = (b == comma) || (b == quote_mark) || (b == carriage_return) || (b == line_feed)

-- a field's bytes, with each quote twice
unfoldable pub doubled : List ℕ → List ℕ
doubled [] = []
doubled (b ∷ rest) = if b == quote_mark then quote_mark ∷ b ∷ doubled rest else b ∷ doubled rest

-- a field, between quotes only if one of its bytes calls for them
abbrev pub field_text : List ℕ → List ℕ
field_text field =
    if list_any calls_for_quotes field then quote_mark ∷ (doubled field ++ quote_mark ∷ [])
    else field

-- the fields after the first, each with the comma before it
unfoldable pub more_fields : List (List ℕ) → List ℕ
more_fields [] = []
more_fields (field ∷ rest) = comma ∷ (field_text field ++ more_fields rest)

-- the fields of a record with commas between them, and a line feed at its end
unfoldable pub record_text : List (List ℕ) → List ℕ
record_text [] = line_feed ∷ []
record_text (field ∷ rest) = field_text field ++ (more_fields rest ++ line_feed ∷ [])

-- the word of an accepted statement that is no query
abbrev pub word_text : Word → List ℕ
word_text At = codes "at"
word_text Create = codes "create"
word_text Insert = codes "insert"
word_text Update = codes "update"
word_text Delete = codes "delete"

-- a day as YYYY-MM-DD
unfoldable pub printed_day : ℤ → List ℕ
printed_day day = day_text day

-- a moment as YYYY-MM-DD HH:MM:SS, followed by a point and six digits if it has a fraction
unfoldable pub printed_moment : ℤ → List ℕ
printed_moment moment = moment_text moment

-- an integer in decimal with `-` if it is negative, a text as it is
abbrev pub value_text : Value → List ℕ
value_text (Int n) = signed_decimal n
value_text (Text bytes) = bytes
value_text (Date day) = printed_day day

-- the day before a row's first, which 0001-01-01 has not
abbrev pub absent_text : Option ℤ → List ℕ
absent_text None = codes "none"
absent_text (Some day) = printed_day day

-- the value at a position; nothing if there is none, as in no version of its table
abbrev pub value_cell : Option Value → List ℕ
value_cell None = []
value_cell (Some value) = value_text value

-- a cell of a version
abbrev pub cell_text : VersionRow → Cell → List ℕ
cell_text v (cell.Value position) = value_cell (slice_get v.values position)
cell_text v cell.Start = printed_day v.period.start
cell_text v cell.End = printed_day v.period.end
cell_text v cell.From = printed_moment v.from
cell_text v cell.To = printed_moment v.to

-- the day of a refusal that names one, else nothing
abbrev pub detail_of : Refusal → List ℕ
detail_of (KeyOverlap day) = printed_day day
detail_of (PeriodReference day) = printed_day day
detail_of _ = []

-- the word, and the number of rows that were given or touched
abbrev pub done_record : ℕ → Word → ℕ → List (List ℕ)
done_record n word count = codes "done" ∷ decimal n ∷ word_text word ∷ decimal count ∷ []

-- the number and the name of the refusal, and its detail
abbrev pub refused_record : ℕ → Refusal → List (List ℕ)
refused_record n refusal =
    codes "refused" ∷ decimal n
    ∷ decimal (code_of refusal) ∷ name_of refusal ∷ detail_of refusal ∷ []

-- the number of value columns, and of rows
abbrev pub answer_record : ℕ → Answer → List (List ℕ)
answer_record n answer =
    codes "answer" ∷ decimal n
    ∷ decimal (length answer.columns) ∷ decimal (length answer.rows) ∷ []

-- the names of the value columns, and of the four that follow them
abbrev pub columns_record : ℕ → List (List ℕ) → List (List ℕ)
columns_record n names =
    codes "columns" ∷ decimal n
    ∷ (names ++ codes "valid_from" ∷ codes "valid_to" ∷ codes "held" ∷ codes "absent" ∷ [])

-- a row's values, its first day and its end, and its witness
abbrev pub row_fields : PeriodRow × Witness → List (List ℕ)
row_fields (row, witness) =
    map value_text row.values
    ++ printed_day row.period.start ∷ printed_day row.period.end
    ∷ printed_day witness.held ∷ absent_text witness.absent ∷ []

-- a row
abbrev pub row_record : ℕ → PeriodRow × Witness → List (List ℕ)
row_record n row = codes "row" ∷ decimal n ∷ row_fields row

-- the number of the table's columns, and of the versions that are shown
abbrev pub versions_record : ℕ → VersionList → List (List ℕ)
versions_record n list =
    codes "versions" ∷ decimal n
    ∷ decimal (length list.columns) ∷ decimal (length list.rows) ∷ []

-- the names of the table's columns
abbrev pub names_record : ℕ → List VersionColumn → List (List ℕ)
names_record n columns =
    codes "columns" ∷ decimal n ∷ map (λ (column : VersionColumn). column.name) columns

-- a version's cells
abbrev pub version_record : ℕ → List VersionColumn → VersionRow → List (List ℕ)
version_record n columns v =
    codes "version" ∷ decimal n
    ∷ map (λ (column : VersionColumn). cell_text v column.cell) columns

-- the records of the n-th result; of an answer's rows those are printed that have a witness in
-- their place
abbrev pub records_of : ℕ → Result Outcome Refusal → List (List (List ℕ))
records_of n (Ok (outcome.Done word count)) = done_record n word count ∷ []
records_of n (Ok (outcome.Answer answer)) =
    answer_record n answer ∷ columns_record n answer.columns
    ∷ map (row_record n) (zip answer.rows answer.witnesses)
records_of n (Ok (outcome.Versions list)) =
    versions_record n list ∷ names_record n list.columns
    ∷ map (version_record n list.columns) list.rows
records_of n (Err refusal) = refused_record n refusal ∷ []

-- the texts of the records, one after the other
abbrev pub text_of : ℕ → Result Outcome Refusal → List ℕ
text_of n result = flat_map record_text (records_of n result)

-- the texts of the results, numbered from the first number on
abbrev pub report_from : ℕ → List (Result Outcome Refusal) → List ℕ
report_from n [] = []
report_from n (result ∷ results) = text_of n result ++ report_from (n + 1) results

-- the report: the results are numbered from 1
abbrev pub report : List (Result Outcome Refusal) → List ℕ
report results = report_from 1 results

-- why a report may fail: memory may always be missing, and else the writer failed
abbrev pub MayFail : Type 0 → ReportFault → Type 0
MayFail writer_failed Memory = ⊤
MayFail writer_failed Write = writer_failed
