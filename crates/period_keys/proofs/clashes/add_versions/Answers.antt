use Rattle.std.proofs.Common.{◌≡◌, ◌+◌, ◌++◌, ◌∷◌, [], ◌∙◌, ℕ, List, append_assoc, append-nil, map, take, sym, ap, subst, arith}
use Rattle.std.proofs.lemmas.List.{map-append, take_all, take_more}
use Rattle.period_core.specs.declared.row.PeriodRow.{PeriodRow}
use Rattle.period_core.specs.declared.version.VersionRow.{VersionRow}
use Rattle.history_model.specs.Versions.{row_of}
use Rattle.period_keys.specs.Keys.{values_at}
use Rattle.period_keys.specs.Index.{IsIndexOf}
use Rattle.period_keys.proofs.Indexes.{index_more}
use Rattle.period_keys.proofs.clashes.add_versions.Goals as goal

pub loop-version-init : goal.loop-version-init
loop-version-init c = λ before was. subst (λ (list : List PeriodRow). IsIndexOf c.args.positions.now list c.args.index.now) (sym (append-nil before)) was

pub loop-version-preserved : goal.loop-version-preserved
loop-version-preserved c = λ before was.
    let rows : List VersionRow = c.args.versions.now in
    let i : ℕ = c.loop-version.version-index in
    let version : VersionRow = c.version-item.result in
    let done : List PeriodRow = before ++ map row_of (take i rows) in
    let more : before ++ map row_of (take (i + 1) rows) ≡ done ++ row_of version ∷ [] =
    ap (λ (list : List PeriodRow). before ++ list) (ap (map row_of) (take_more rows i version (omega arith) ∙ ap (λ x. take i rows ++ x ∷ []) (sym c.version-item.is)) ∙ map-append row_of (take i rows) (version ∷ []))
    ∙ sym (append_assoc before (map row_of (take i rows)) (row_of version ∷ [])) in
    subst (λ (list : List PeriodRow). IsIndexOf c.args.positions.now list c.add.new.self) (sym more)
    (index_more c.args.positions.now done (row_of version) c.loop-version.index c.add.new.self c.in_ok-key.key (c.in_ok-key.ensures ∙ ap (values_at c.args.positions.now) c.as_slice.ensures) c.in_ok-add.ensures.ok (c.loop-version.invariant before was))

pub returns : goal.returns
returns c = λ before was.
    let all : take c.loop-version.version-index c.args.versions.now ≡ c.args.versions.now = take_all _ _ (omega arith) in
    subst (λ (list : List VersionRow). IsIndexOf c.args.positions.now (before ++ map row_of list) c.loop-version.index) all (c.loop-version.invariant before was)
