-- Worked rows: what the definitions of the report give on values written out.
use Rattle.std.specs.Prelude.{◌≡◌, ◌∷◌, ◌++◌, [], refl, codes, Ok, Err}
use Rattle.std.specs.Fmt.{digits}
use Rattle.period_core.specs.declared.refusal.Refusal.TheVariants.{Syntax}
use Rattle.statement_reports.specs.Report.{doubled, field_text, line_feed, more_fields, quote_mark, record_text, report, text_of}
use Rattle.statement_reports.specs.declared.outcome.Cell.TheVariants as cell
use Rattle.statement_reports.specs.declared.outcome.Outcome.TheVariants as outcome
use Rattle.statement_reports.specs.declared.outcome.Word.TheVariants.{Create}

-- a comma calls for quotes, and a quote inside is doubled
quoted-field : field_text (codes "a," ++ quote_mark ∷ codes "b") ≡ quote_mark ∷ (codes "a," ++ quote_mark ∷ quote_mark ∷ codes "b") ++ quote_mark ∷ []
unfolding doubled
quoted-field = refl

-- an answer without rows has two records
empty-answer : text_of 3 (Ok (outcome.Answer record { columns = codes "DEPT" ∷ []; rows = []; witnesses = [] }))
    ≡ codes "answer,3,1,0" ++ line_feed ∷ codes "columns,3,DEPT,valid_from,valid_to,held,absent" ++ line_feed ∷ []
unfolding digits record_text more_fields
empty-answer = refl

-- a list of no versions has two records, with all columns of the table
empty-versions : text_of 3 (Ok (outcome.Versions record { columns = record { name = codes "ENO"; cell = cell.Value 0 } ∷ record { name = codes "S"; cell = cell.Start } ∷ []; rows = [] }))
    ≡ codes "versions,3,2,0" ++ line_feed ∷ codes "columns,3,ENO,S" ++ line_feed ∷ []
unfolding digits record_text more_fields
empty-versions = refl

-- results are numbered from 1
two-results : report (Ok (outcome.Done Create 0) ∷ Err Syntax ∷ [])
    ≡ codes "done,1,create,0" ++ line_feed ∷ codes "refused,2,10,Syntax," ++ line_feed ∷ []
unfolding digits record_text more_fields
two-results = refl
