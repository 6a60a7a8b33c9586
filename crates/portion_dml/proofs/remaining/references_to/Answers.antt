use Rattle.std.proofs.Common.{◌++◌, ◌∷◌, ◌∙◌, [], List, ap, map, sym, take}
use Rattle.std.specs.Borrow.{Bor}
use Rattle.std.proofs.lemmas.List.{map-append, take_more}
use Rattle.period_core.specs.declared.version.VersionRow.{VersionRow}
use Rattle.portion_dml.proofs.remaining.references_to.Goals as goal

abbrev now_of : Bor VersionRow → VersionRow
now_of r = r.now

pub loop-version-preserved : goal.loop-version-preserved
loop-version-preserved c =
    let versions : List VersionRow = c.args.versions.now in
    let here : VersionRow = c.version-item.result in
    ap (map now_of) c.in_ok-push.ensures.items
    ∙ map-append now_of c.loop-version.references.items _
    ∙ ap (λ (l : List VersionRow). l ++ here ∷ []) c.loop-version.invariant
    ∙ ap (λ (v : VersionRow). take c.loop-version.version-index versions ++ v ∷ []) c.version-item.is
    ∙ sym (take_more versions c.loop-version.version-index here c.loop-version-test.true)
