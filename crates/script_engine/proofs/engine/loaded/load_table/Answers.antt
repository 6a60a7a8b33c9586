use Rattle.std.proofs.Common.{◌≡◌, ◌++◌, ◌∙◌, List, ap, append-nil, inr, subst}
use Rattle.std.specs.Prelude.{IfSome, IsPermutation, filter}
use Rattle.std.proofs.lemmas.List.Sorted.{IsPermutation-sym}
use Rattle.period_core.specs.declared.version.VersionRow.{VersionRow}
use Rattle.ended_versions.specs.Packed.{Hold}
use Rattle.script_engine.specs.engine.Ended.{SomeEndedAfter, has_ended, is_current}
use Rattle.script_engine.proofs.engine.loaded.load_table.Goals as goal

pub returns-in-Some-clause-current : goal.returns-in-Some-clause-current
returns-in-Some-clause-current c =
    let current : List VersionRow = c.in_ok-current.current.items in
    let loaded : List VersionRow = c.add_each.new.self.rows in
    let all : IsPermutation loaded (current ++ c.in_ok-rows.rows.rows) = c.in_ok-add_each.ensures.rows in
    let same : IsPermutation loaded current = subst (IsPermutation loaded) (append-nil current) (subst (λ (l : List VersionRow). IsPermutation loaded (current ++ l)) c.in_ok-rows.ensures.none all) in
    let are : current ≡ filter is_current c.args.versions = c.in_ok-current.ensures.current ∙ ap (filter is_current) c.into_vec.ensures in
    subst (λ (l : List VersionRow). IsPermutation l loaded) are (IsPermutation-sym loaded current same)

pub returns-in-Some-clause-ended : goal.returns-in-Some-clause-ended
returns-in-Some-clause-ended c =
    let versions : List VersionRow = c.in_ok-current.ended.items in
    let held : (ended : List VersionRow) × Hold c.in-Some.list ended × IsPermutation versions ended =
    subst (λ found. IfSome found (λ list. (ended : List VersionRow) × Hold list ended × IsPermutation versions ended)) c.in-Some.is c.in_ok-found.ensures.held in
    let are : versions ≡ filter has_ended c.args.versions = c.in_ok-current.ensures.ended ∙ ap (filter has_ended) c.into_vec.ensures in
    (held.0, held.1, subst (λ (l : List VersionRow). IsPermutation l held.0) are held.2)

pub returns-in-None-clause-why : goal.returns-in-None-clause-why
returns-in-None-clause-why c =
    let are : c.in_ok-current.ended.items ≡ filter has_ended c.args.versions = c.in_ok-current.ensures.ended ∙ ap (filter has_ended) c.into_vec.ensures in
    inr (subst (SomeEndedAfter c.args.clock) are (c.in_ok-found.ensures.none c.in-None.is))
