use Rattle.std.proofs.Common.{◌≡◌, ◌≤ℤ◌, ◌+◌, ◌++◌, ◌∷◌, [], ◌∙◌, List, ap, map, subst, sym, take}
use Rattle.std.specs.List.{Contains}
use Rattle.std.specs.List.Sorted.{IsPermutation}
use Rattle.std.proofs.lemmas.List.{map-append, take_more, take_all}
use Rattle.std.proofs.lemmas.List.Elements.{All-nil, All-push, Contains-get_or}
use Rattle.std.proofs.lemmas.List.Sorted.{Contains-permutation, IsPermutation-sym}
use Rattle.period_core.specs.declared.version.VersionRow.{VersionRow}
use Rattle.ended_versions.specs.Packed.{AreEndedBy, AreOfColumns, PackedVersion, packed}
use Rattle.ended_versions.proofs.PackedFacts.{OfColumns}
use Rattle.script_engine.specs.engine.Ended.{AreInOrderOfEnds}
use Rattle.script_engine.proofs.EndedInTime.{later}
use Rattle.script_engine.proofs.EndedLoaded.{ended_so_far, not_later}
use Rattle.script_engine.proofs.engine.loaded.load_ended.Goals as goal

pub add-requires : goal.add-requires
add-requires c =
    let ordered : AreInOrderOfEnds c.deref-version-items.result.now = subst AreInOrderOfEnds (sym c.deref-version-items.ensures.value) c.in_ok-ended.ensures.ordered in
    subst (AreEndedBy c.version-item.result.to) (sym c.loop-version.invariant.made)
    (ended_so_far c.deref-version-items.result.now c.loop-version.version-index c.version-item.result ordered c.loop-version-test.true c.version-item.is)

pub loop-version-init : goal.loop-version-init
loop-version-init c = record {
  made = c.requires;
  held = All-nil OfColumns;
  before = subst (AreEndedBy c.args.moment) (sym c.requires) (All-nil (λ (v : PackedVersion). v.to ≤ℤ c.args.moment));
}

pub loop-version-preserved : goal.loop-version-preserved
loop-version-preserved c =
    let inv = c.loop-version.invariant in
    let ended : List VersionRow = c.deref-version-items.result.now in
    let i = c.loop-version.version-index in
    let version : VersionRow = c.version-item.result in
    let next : take (i + 1) ended ≡ take i ended ++ version ∷ [] =
    take_more ended i version c.loop-version-test.true ∙ ap (λ (v : VersionRow). take i ended ++ v ∷ []) (sym c.version-item.is) in
    let made : c.add.new.self ≡ map packed (take (i + 1) ended) =
    c.in_ok-add.ensures.ok
    ∙ (ap (λ (l : List PackedVersion). l ++ packed version ∷ []) inv.made
    ∙ (sym (map-append packed (take i ended) (version ∷ [])) ∙ ap (map packed) (sym next))) in
    record {
      made = made;
      held = subst AreOfColumns (sym next) (All-push OfColumns (take i ended) version inv.held c.in_ok-add.ensures.held);
      before = subst (AreEndedBy c.args.moment) (sym c.in_ok-add.ensures.ok) (All-push (λ (v : PackedVersion). v.to ≤ℤ c.args.moment) c.loop-version.list (packed version) inv.before (not_later c.version-item.result.to c.args.moment c.if-gt.ensures));
    }

pub returns-clause-held : goal.returns-clause-held
returns-clause-held c =
    let inv = c.loop-version.invariant in
    let ended : List VersionRow = c.deref-version-items.result.now in
    let all : take c.loop-version.version-index ended ≡ ended = take_all c.loop-version.version-index ended c.loop-version-test.false in (
      ended,
      record { same = sym (inv.made ∙ ap (map packed) all); held = subst AreOfColumns all inv.held },
      subst (IsPermutation c.args.versions.items) (sym c.deref-version-items.ensures.value) c.in_ok-ended.ensures.ended,
    )

pub returns-clause-before : goal.returns-clause-before
returns-clause-before c = c.loop-version.invariant.before

-- the first that ended after the moment is one of the versions
pub returns-then-gt-clause-none : goal.returns-then-gt-clause-none
returns-then-gt-clause-none c = λ none.
    let ended : List VersionRow = c.deref-version-items.result.now in
    let version : VersionRow = c.version-item.result in
    let there : Contains ended version = subst (Contains ended) (sym c.version-item.is) (Contains-get_or ended c.loop-version.version-index version c.loop-version-test.true) in
    let same : IsPermutation c.args.versions.items ended = subst (IsPermutation c.args.versions.items) (sym c.deref-version-items.ensures.value) c.in_ok-ended.ensures.ended in
    (version, Contains-permutation ended c.args.versions.items version (IsPermutation-sym c.args.versions.items ended same) there, later version.to c.args.moment c.if-gt.ensures)
