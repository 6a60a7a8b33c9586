use Rattle.std.proofs.Common.{inl, inr, refl}
use Rattle.std.proofs.lemmas.Result.{err_from_is_err_and}
use Rattle.version_tables.specs.Selections.{selects}
use Rattle.version_tables.specs.declared.selection.Selection.TheVariants.{Whole}
use Rattle.version_store.specs.Units.{in_microseconds}
use Rattle.version_store.proofs.Scanned.{all_rows}
use Rattle.version_store.proofs.scans.table_rows.Goals as goal

pub returns-clause-rows : goal.returns-clause-rows
returns-clause-rows g c clean d has =
    all_rows {X = Unit {0}} (in_microseconds c.args.form d) c.args.table c.new-kept.result.rows.items c.scan_selected.new.visitor.rows.items tt c.new-kept.ensures.rows
    (c.in_ok-scan_selected.ensures.visited clean d has (selects Whole) (λ from to. refl))

pub returns-in_err-scan_selected-clause-why : goal.returns-in_err-scan_selected-clause-why
returns-in_err-scan_selected-clause-why g c usable d has dated =
    let p = err_from_is_err_and c.from_residual.result c.from_residual.ensures.1 in
    rw (p.1, p.2) (elim (c.in_err-scan_selected.ensures.why usable d has dated) [ inl own ↦ inl own.0 | inr failed ↦ failed ])

pub returns-in_err-scan_selected-clause-named : goal.returns-in_err-scan_selected-clause-named
returns-in_err-scan_selected-clause-named g c =
    let p = err_from_is_err_and c.from_residual.result c.from_residual.ensures.1 in
    rw (p.1, p.2) (elim c.in_err-scan_selected.ensures.named [ inl store ↦ store | inr memory ↦ inl memory ])
