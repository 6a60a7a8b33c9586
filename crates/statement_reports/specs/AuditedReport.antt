-- The report of an audited run as bytes, a function of the list of entries.
use Rattle.std.specs.Prelude.{◌+◌, ◌∷◌, ◌++◌, ℕ, List, [], Option, Some, None, Result, Ok, Err}
use Rattle.std.specs.Prelude.{codes}
use Rattle.std.specs.Fmt.{decimal}
use Rattle.period_core.specs.Codes.{code_of}
use Rattle.period_core.specs.declared.refusal.Refusal.{Refusal}
use Rattle.snapshot_audit.specs.declared.verdict.Verdict.{Verdict}
use Rattle.snapshot_audit.specs.declared.verdict.Verdict.TheVariants.{Agrees, Differs, BadWitness}
use Rattle.statement_reports.specs.declared.entry.Entry.{Entry}
use Rattle.statement_reports.specs.Report.{printed_day, record_text, text_of}

-- the word of a verdict, and what it carries: the number of change days, the least day of
-- difference, or the number of the first row that is not sound
abbrev pub verdict_fields : Verdict → List (List ℕ)
verdict_fields (Agrees days) = codes "agrees" ∷ decimal days ∷ []
verdict_fields (Differs day) = codes "differs" ∷ printed_day day ∷ []
verdict_fields (BadWitness row) = codes "badwitness" ∷ decimal row ∷ []

-- the fields of an audit: its verdict, or the number of its refusal
abbrev pub audit_fields : Result Verdict Refusal → List (List ℕ)
audit_fields (Ok verdict) = verdict_fields verdict
audit_fields (Err refusal) = codes "refused" ∷ decimal (code_of refusal) ∷ []

-- the record of the audit of the n-th statement's answer
abbrev pub audit_record : ℕ → Result Verdict Refusal → List (List ℕ)
audit_record n audit = (codes "audit" ∷ decimal n ∷ []) ++ audit_fields audit

-- the record of an audit, if there is one
abbrev pub audit_text : ℕ → Option (Result Verdict Refusal) → List ℕ
audit_text n None = []
audit_text n (Some audit) = record_text (audit_record n audit)

-- the records of the n-th entry: its result's, and then its audit's
abbrev pub entry_text : ℕ → Entry → List ℕ
entry_text n entry = text_of n entry.result ++ audit_text n entry.audit

-- the texts of the entries, numbered from the first number on
abbrev pub entries_from : ℕ → List Entry → List ℕ
entries_from n [] = []
entries_from n (entry ∷ entries) = entry_text n entry ++ entries_from (n + 1) entries

-- the report of an audited run: the entries are numbered from 1
abbrev pub audited_report : List Entry → List ℕ
audited_report entries = entries_from 1 entries
