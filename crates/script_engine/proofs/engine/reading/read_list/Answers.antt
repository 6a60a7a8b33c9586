use Rattle.std.proofs.Common.{◌≡◌, ◌++◌, ◌∷◌, [], ◌∙◌, List, append_assoc, append-nil, ap, arith, map, refl, subst, sym}
use Rattle.std.proofs.lemmas.List.{map-append, nil_from_length}
use Rattle.period_core.specs.declared.version.VersionRow.{VersionRow}
use Rattle.script_engine.specs.engine.Reading.{AreTaken, left, none, taken}
use Rattle.script_engine.proofs.Taken.{selected_seen, taken_both}
use Rattle.script_engine.proofs.engine.reading.read_list.Goals as goal

pub loop-version-init : goal.loop-version-init
loop-version-init g c = ([], [], refl, none, sym (append-nil c.args.rows.now.items))

pub loop-version-preserved : goal.loop-version-preserved
loop-version-preserved g c =
    let Taken = g.S.Selection.IsTaken c.args.selection.now in
    let Lack = g.S.Selection.MayLack c.args.selection.now in
    let made = g.S.Selection.made in
    let (done, some, split, read, is) = c.loop-version.invariant in
    let version : VersionRow = c.in-Some.version in
    let rest : List VersionRow = c.next.new.self.rest.items in (
      done ++ version ∷ [],
      some ++ version ∷ [],
      split ∙ ap (λ (xs : List VersionRow). done ++ xs) c.in-Some.ensures.steps.0 ∙ sym (append_assoc done (version ∷ []) rest),
      taken_both Taken Lack read (taken (c.takes.ensures.taken c.if-not-takes.false) none),
      c.in_ok-push.ensures.items ∙ (ap (λ (row : g.row.S-Row.Denot). c.loop-version.rows.items ++ row ∷ []) c.moved.ensures
          ∙ (ap (λ (rows : List g.row.S-Row.Denot). rows ++ made version ∷ []) is ∙ (append_assoc c.args.rows.now.items (map made some) (made version ∷ [])
          ∙ ap (λ (rows : List g.row.S-Row.Denot). c.args.rows.now.items ++ rows) (sym (map-append made some (version ∷ [])))))),
    )

pub loop-version-preserved-then-not-takes : goal.loop-version-preserved-then-not-takes
loop-version-preserved-then-not-takes g c =
    let Taken = g.S.Selection.IsTaken c.args.selection.now in
    let Lack = g.S.Selection.MayLack c.args.selection.now in
    let (done, some, split, read, is) = c.loop-version.invariant in
    let version : VersionRow = c.in-Some.version in
    let rest : List VersionRow = c.next.new.self.rest.items in (
      done ++ version ∷ [],
      some,
      split ∙ ap (λ (xs : List VersionRow). done ++ xs) c.in-Some.ensures.steps.0 ∙ sym (append_assoc done (version ∷ []) rest),
      subst (AreTaken Taken Lack (done ++ version ∷ [])) (append-nil some) (taken_both Taken Lack read (left (c.takes.ensures.left c.if-not-takes.true) none)),
      is,
    )

pub returns : goal.returns
returns g c = λ versions hold.
    let access = c.args.access.now in
    let Taken = g.S.Selection.IsTaken c.args.selection.now in
    let Lack = g.S.Selection.MayLack c.args.selection.now in
    let (done, some, split, read, is) = c.loop-version.invariant in
    let over : c.loop-version.version-iterator.rest.items ≡ [] = nil_from_length c.loop-version.version-iterator.rest.items (grind (arith, c.loop-version.version-iterator.rest.ok, c.in-None.ensures.steps)) in
    let seen : List VersionRow = c.in_ok-version-items.version-items.items in
    let all : done ≡ seen = sym (split ∙ ap (λ (xs : List VersionRow). done ++ xs) over ∙ append-nil done) ∙ c.into_iter-version-iterator.ensures.into_iter_gives.0 in
    selected_seen access Taken Lack g.S.Selection.made versions seen some c.args.rows.now.items c.loop-version.rows.items (c.in_ok-version-items.ensures versions hold)
    (subst (λ (xs : List VersionRow). AreTaken Taken Lack xs some) all read) is
