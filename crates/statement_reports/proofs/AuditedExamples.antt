-- Worked rows: what the definitions of an audited run's report give on entries written out.
use Rattle.std.specs.Prelude.{◌≡◌, ◌∷◌, ◌++◌, [], refl, codes, Ok, Err, Some, neg_ℤ, pos}
use Rattle.std.specs.Fmt.{digits}
use Rattle.period_core.specs.Calendar.{count_below}
use Rattle.period_core.specs.declared.refusal.Refusal.TheVariants.{Memory}
use Rattle.snapshot_audit.specs.declared.verdict.Verdict.TheVariants.{Agrees, BadWitness, Differs}
use Rattle.statement_reports.specs.declared.entry.Entry.{Entry}
use Rattle.statement_reports.specs.declared.outcome.Outcome.TheVariants as outcome
use Rattle.statement_reports.specs.AuditedReport.{audit_text, audited_report}
use Rattle.statement_reports.specs.Report.{line_feed, more_fields, printed_day, record_text}

-- an answer's audit is after its records
empty_answer : Entry
empty_answer = record {
  result = Ok (outcome.Answer record { columns = codes "ENO" ∷ []; rows = []; witnesses = [] });
  audit = Some (Ok (Agrees 1));
}

empty_answer-audited : audited_report (empty_answer ∷ [])
    ≡ codes "answer,1,1,0" ++ line_feed ∷ codes "columns,1,ENO,valid_from,valid_to,held,absent" ++ line_feed ∷ codes "audit,1,agrees,1" ++ line_feed ∷ []
unfolding digits record_text more_fields empty_answer
empty_answer-audited = refl

-- the least day of difference, the number of a row, and the number of a refusal
differing : audit_text 4 (Some (Ok (Differs (neg_ℤ (pos 719_162))))) ≡ codes "audit,4,differs,0001-01-01" ++ line_feed ∷ []
unfolding digits record_text more_fields printed_day count_below
differing = refl

badly_witnessed : audit_text 4 (Some (Ok (BadWitness 2))) ≡ codes "audit,4,badwitness,2" ++ line_feed ∷ []
unfolding digits record_text more_fields
badly_witnessed = refl

not_made : audit_text 4 (Some (Err Memory)) ≡ codes "audit,4,refused,61" ++ line_feed ∷ []
unfolding digits record_text more_fields
not_made = refl
