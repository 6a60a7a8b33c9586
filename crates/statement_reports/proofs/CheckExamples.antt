-- Worked rows: what the definitions of a check's report give on values written out.
use Rattle.std.specs.Prelude.{◌≡◌, ◌∷◌, ◌++◌, [], refl, codes, Ok, Err}
use Rattle.std.specs.Fmt.{digits}
use Rattle.period_core.specs.declared.refusal.Refusal.TheVariants.{LimitReached, Syntax}
use Rattle.statement_reports.specs.CheckReport.{check_text}
use Rattle.statement_reports.specs.Report.{line_feed, more_fields, record_text}

-- the refused statements have their numbers among all
three-statements : check_text (Err Syntax ∷ Ok tt ∷ Err LimitReached ∷ [])
    ≡ codes "refused,1,10,Syntax," ++ line_feed ∷ codes "refused,3,21,LimitReached," ++ line_feed ∷ codes "checked,3,2" ++ line_feed ∷ []
unfolding digits record_text more_fields
three-statements = refl
