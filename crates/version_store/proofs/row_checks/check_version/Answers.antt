use Rattle.std.proofs.Common.{◌≡◌, ◌∙◌, ℕ, Some, ap, pos, rules, subst, sym, w64}
use Rattle.std.specs.List.{All}
use Rattle.std.proofs.lemmas.Int.{to_z-of_z}
use Rattle.period_core.specs.Encoding.{IsColumnValue, encoded}
use Rattle.catalog_core.specs.table.TableWords.{table_of}
use Rattle.version_tables.proofs.ColumnFacts.{never}
use Rattle.version_tables.specs.Rows.{IsNumberAt}
use Rattle.version_tables.specs.Good as raw
use Rattle.version_store.proofs.Judged.{number_there, raw_version, row_fits, says_by, values_there}
use Rattle.version_store.proofs.Dated.{good_is_dated}
use Rattle.version_store.proofs.ReadRows.{read_as}
use Rattle.version_store.proofs.row_checks.check_version.Goals as goal

pub returns-then-not-is_version-clause-bad : goal.returns-then-not-is_version-clause-bad
returns-then-not-is_version-clause-bad c = λ _ says.
    let e = rw (to_z-of_z w64 c.args.clock c.ranges.clock) at c.is_version.ensures in
    let has = raw_version c.args.form c.args.catalog.now.tables c.args.clock c.args.row.now says in
    never (sym c.if-not-is_version.true ∙ e.1 (subst (λ (n : ℕ). raw.IsVersionRow c.args.form c.args.clock n c.args.row.now) (sym c.len.ensures) has))

pub returns-in_default-clause-bad : goal.returns-in_default-clause-bad
returns-in_default-clause-bad c = λ _ says. c.in_default.ensures (number_there _ _ _ _ (raw_version c.args.form c.args.catalog.now.tables c.args.clock c.args.row.now says))

pub returns-in_default-bytes_at-clause-bad : goal.returns-in_default-bytes_at-clause-bad
returns-in_default-bytes_at-clause-bad c = λ _ says. c.in_default-bytes_at.ensures (values_there _ _ _ _ (raw_version c.args.form c.args.catalog.now.tables c.args.clock c.args.row.now says))

pub returns-then-not-are_row_values-clause-bad : goal.returns-then-not-are_row_values-clause-bad
returns-then-not-are_row_values-clause-bad c = λ _ says.
    let number : IsNumberAt c.args.row.now 0 (pos c.in-Ok.number) = search rules in
    let known : table_of c.args.catalog.now.tables c.in-Ok.number ≡ Some c.in-Some-def.definition.now = search rules in
    let fits = row_fits c.args.form c.args.catalog.now.tables c.args.clock c.args.row.now c.in-Ok.number c.in-Some-bytes_at.bytes.now c.in-Some-def.definition.now c.in_ok-values.values.items says number c.in-Some-bytes_at.ensures known c.in_ok-values.ensures.found c.in_ok-values.ensures.held in
    never (sym c.if-not-are_row_values.true ∙ (rw c.as_slice.ensures.value at c.are_row_values.ensures) ∙ fits)

pub returns-clause-good : goal.returns-clause-good
returns-clause-good c =
    let e = rw (to_z-of_z w64 c.args.clock c.ranges.clock) at c.is_version.ensures in
    let has = subst (λ (n : ℕ). raw.IsVersionRow c.args.form c.args.clock n c.args.row.now) c.len.ensures (e.0 c.if-not-is_version.false) in
    let number : IsNumberAt c.args.row.now 0 (pos c.in-Ok.number) = search rules in
    let known : table_of c.args.catalog.now.tables c.in-Ok.number ≡ Some c.in-Some-def.definition.now = search rules in
    let says = says_by c.args.form c.args.catalog.now.tables c.args.clock c.args.row.now c.in-Ok.number c.in-Some-bytes_at.bytes.now c.in-Some-def.definition.now c.in_ok-values.values.items has number c.in-Some-bytes_at.ensures known c.in_ok-values.ensures.found c.in_ok-values.ensures.held
    (sym (rw c.as_slice.ensures.value at c.are_row_values.ensures) ∙ c.if-not-are_row_values.false) in
    let read = c.in-Some-dated_row.version in
    let values : read.values ≡ c.in_ok-values.values.items = c.in-Some-dated_row.ensures.0 ∙ c.from_vec.ensures in
    read_as c.args.form c.args.catalog.now.tables c.args.clock c.args.row.now c.in-Ok.number c.in-Some-bytes_at.bytes.now read says number c.in-Some-bytes_at.ensures (ap encoded values ∙ c.in_ok-values.ensures.found)
    (subst (All IsColumnValue) (sym values) c.in_ok-values.ensures.held) c.in-Some-dated_row.ensures.1

pub returns-in_default-dated_row-clause-bad : goal.returns-in_default-dated_row-clause-bad
returns-in_default-dated_row-clause-bad c = λ _ says. c.in_default-dated_row.ensures says.0 (good_is_dated c.args.form c.args.catalog.now.tables c.args.clock says.0 says.2) says.1
