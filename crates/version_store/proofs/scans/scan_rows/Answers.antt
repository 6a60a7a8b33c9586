use Rattle.std.proofs.Common.{subst, sym}
use Rattle.period_core.specs.Windows.{window_sees}
use Rattle.version_store.specs.Contents.{AreDated, Contents}
use Rattle.version_store.proofs.Scanned.{none_visits, visits_same}
use Rattle.version_store.proofs.Units.{same_units}
use Rattle.version_store.proofs.scans.scan_rows.Goals as goal

pub returns-in-Some-clause-visited : goal.returns-in-Some-clause-visited
returns-in-Some-clause-visited g c clean d has dated =
    visits_same g.V.RowVisitor.next _ d c.args.table (window_sees c.args.window) _ _ c.scan_selected.result (same_units d)
    (c.scan_selected.ensures.visited clean d has (window_sees c.args.window) c.in-Some.ensures.1)

pub returns-in-Some-clause-why : goal.returns-in-Some-clause-why
returns-in-Some-clause-why g c usable d has dated =
    c.scan_selected.ensures.why usable d has (subst (λ (e : Contents). AreDated e.versions) (sym (same_units d)) dated)

pub returns-in-None-clause-visited : goal.returns-in-None-clause-visited
returns-in-None-clause-visited g c clean d has dated = none_visits g.V.RowVisitor.next d c.args.table c.args.window _ c.in-None.ensures dated
