use Rattle.std.proofs.Common.{◌≡◌, ◌∷◌, [], codes, take}
use Rattle.std.specs.Fmt.{decimal}
use Rattle.std.specs.Io.KnownBytes.{Appends, append_known}
use Rattle.statement_reports.proofs.AppendFacts.{versions_text}
use Rattle.statement_reports.proofs.report.write_versions.Given as goal

-- the versions written; the record begins as a version's
abbrev pub invariant-loop-version : goal.invariant-loop-version
invariant-loop-version g l =
    (Appends (append_known (g.W.Write.contents l.fn.out) l.fn.buffer) (append_known (g.W.Write.contents l.out) l.buffer)
    (versions_text l.number l.list l.columns (take l.version-index l.rows)))
    × (l.line ≡ codes "version" ∷ decimal l.number ∷ [])
