use Rattle.std.proofs.Common.{◌≡◌, ◌+◌, ◌≤◌, take, length, get_or, Some, refl, sym, ◌∙◌, ap, subst}
use Rattle.std.specs.Prelude.{slice_get}
use Rattle.std.proofs.lemmas.Option.{slice_get_past, slice_get_read}
use Rattle.period_core.specs.declared.value.Value.{Value}
use Rattle.snapshot_audit.specs.Keys.{Reads}
use Rattle.snapshot_audit.proofs.KeyOrder.{no_value, reads_more}
use Rattle.snapshot_audit.proofs.keys.read.Goals as goal

pub returns-in_default : goal.returns-in_default
returns-in_default c = λ key its.
    let values = c.args.values.now in
    let columns = c.args.columns.now in
    let column = get_or columns c.loop-column.column-index 0 in
    let past : length values ≤ column = c.in_default.ensures.lookup.3 in
    no_value columns values key c.loop-column.column-index 0 c.loop-column-test.true (slice_get_past values column past) its

pub loop-column-preserved : goal.loop-column-preserved
loop-column-preserved c =
    let values = c.args.values.now in
    let columns = c.args.columns.now in
    let column = get_or columns c.loop-column.column-index 0 in
    let value = c.in-Some.value.now in
    let there : slice_get values column ≡ Some value =
    slice_get_read values (length values) column value refl c.in-Some.ensures.lookup.3.0 c.in-Some.ensures.lookup.1 in
    subst (Reads (take (c.loop-column.column-index + 1) columns) values) (sym c.in_ok-push.ensures.items)
    (reads_more columns values c.loop-column.key.items c.loop-column.column-index column c.in_ok-copy.field-0 c.loop-column-test.true refl
    (there ∙ ap (λ (v : Value). Some v) (sym c.in_ok-copy.ensures)) c.loop-column.invariant)
