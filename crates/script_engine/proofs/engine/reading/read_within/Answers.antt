use Rattle.std.proofs.Common.{◌≡◌, ◌++◌, [], ◌∙◌, Bool, List, false, true, append_assoc, append-nil, ap, arith, inl, inr, map, refl, subst, sym}
use Rattle.std.specs.Borrow.{Bor}
use Rattle.std.specs.List.{filter}
use Rattle.std.proofs.lemmas.Bool.{false≢true}
use Rattle.std.proofs.lemmas.List.{nil_from_length}
use Rattle.period_core.specs.declared.version.VersionRow.{VersionRow}
use Rattle.period_keys.specs.declared.key_rows.KeyRows.{KeyRows}
use Rattle.period_keys.specs.Rows.{rows_of_lists}
use Rattle.script_engine.specs.declared.engine.reading.Access.{Access}
use Rattle.script_engine.specs.engine.Reading.{AddRead, MayBeUnread, is_within}
use Rattle.script_engine.proofs.Taken.{add_both, add_filtered, add_none}
use Rattle.script_engine.proofs.engine.reading.read_within.Goals as goal

abbrev rows_of : List (Bor KeyRows) → List VersionRow
rows_of groups = rows_of_lists (map (λ (group : Bor KeyRows). group.now) groups)

pub loop-group-init : goal.loop-group-init
loop-group-init g c = (
  [],
  refl,
  add_none (g.S.Selection.IsTaken c.args.selection.now) (g.S.Selection.MayLack c.args.selection.now) g.S.Selection.made c.args.rows.now.items,
)

pub loop-group-preserved : goal.loop-group-preserved
loop-group-preserved g c =
    let Taken = g.S.Selection.IsTaken c.args.selection.now in
    let Lack = g.S.Selection.MayLack c.args.selection.now in
    let made = g.S.Selection.made in
    let (done, split, added) = c.loop-group.invariant in
    let group : List VersionRow = c.in-Some.group.now.rows.items in
    let rest : List VersionRow = rows_of c.next.new.self.rest.items in
    let left : rows_of c.loop-group.group-iterator.rest.items ≡ group ++ rest = ap rows_of c.in-Some.ensures.steps.0 in
    let middle = c.loop-group.rows.items in
    let new = c.read_versions.new.rows.items in (
      done ++ group,
      split ∙ ap (λ (xs : List VersionRow). done ++ xs) left ∙ sym (append_assoc done group rest),
      add_both Taken Lack made done group c.args.rows.now.items middle new added
          (subst (λ (xs : List VersionRow). AddRead Taken Lack made xs middle new) c.as_slice.ensures c.in_ok-read_versions.ensures),
    )

-- the rest of the versions are not in the range
pub returns : goal.returns
returns g c =
    let access = c.args.access.now in
    let Taken = g.S.Selection.IsTaken c.args.selection.now in
    let Lack = g.S.Selection.MayLack c.args.selection.now in
    let made = g.S.Selection.made in
    let (done, split, added) = c.loop-group.invariant in
    let none : c.loop-group.group-iterator.rest.items ≡ [] = nil_from_length c.loop-group.group-iterator.rest.items (grind (arith, c.loop-group.group-iterator.rest.ok, c.in-None.ensures.steps)) in
    let within = c.in_ok-group-items.ensures in
    let keep = within.keep in
    let all : done ≡ filter keep c.args.table.now.rows =
    sym (split ∙ ap (λ (xs : List VersionRow). done ++ xs) (ap rows_of none) ∙ append-nil done)
    ∙ ap rows_of c.into_iter-group-iterator.ensures.into_iter_gives.0 ∙ within.are_kept in
    add_filtered Taken Lack made (MayBeUnread access Lack) (λ v may. inr (inr may)) keep (λ v out. inr (inl (outside access keep within.kept v out))) c.args.table.now.rows c.args.rows.now.items c.loop-group.rows.items
    (subst (λ (xs : List VersionRow). AddRead Taken Lack made xs c.args.rows.now.items c.loop-group.rows.items) all added)
  where
    outside : (access : Access) (keep : VersionRow → Bool) → ((v : VersionRow) → is_within access v ≡ true → keep v ≡ true) → (v : VersionRow) → keep v ≡ false → is_within access v ≡ false
    outside access keep kept v out = by_test (is_within access v) refl
      where
        by_test : (b : Bool) → is_within access v ≡ b → b ≡ false
        by_test false is = refl
        by_test true is = absurd (false≢true (sym out ∙ kept v is))
