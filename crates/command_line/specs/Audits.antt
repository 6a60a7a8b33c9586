-- Audits that fail.
use Rattle.std.specs.Prelude.{Bool, Option, None, Some, Result, Ok, Err, false, true}
use Rattle.period_core.specs.declared.refusal.Refusal.{Refusal}
use Rattle.snapshot_audit.specs.declared.verdict.Verdict.{Verdict}
use Rattle.snapshot_audit.specs.declared.verdict.Verdict.TheVariants.{Agrees, Differs, BadWitness}

-- an audit was made, and it did not agree or was refused
abbrev pub fails_audit : Option (Result Verdict Refusal) → Bool
fails_audit None = false
fails_audit (Some (Ok (Agrees days))) = false
fails_audit (Some (Ok (Differs day))) = true
fails_audit (Some (Ok (BadWitness row))) = true
fails_audit (Some (Err refusal)) = true
