use Rattle.std.proofs.Common.{◌≡◌, ◌+◌, ◌++◌, ◌∷◌, [], ◌∙◌, Bool, false, cond, List, append-nil, append_assoc, map, take, ap, sym, subst}
use Rattle.std.specs.List.{All}
use Rattle.std.specs.Ordering.{int_eq}
use Rattle.std.proofs.lemmas.List.{map-append, take_more}
use Rattle.std.proofs.lemmas.List.Concat.{flat_map-append}
use Rattle.std.proofs.lemmas.List.Elements.{All-push}
use Rattle.period_core.specs.Encoding.{IsColumnValue}
use Rattle.period_core.specs.declared.version.VersionRow.{VersionRow}
use Rattle.ended_versions.specs.Packed.{AreOfColumns, PackedVersion, closed_at, closed_row, ended_at, packed}
use Rattle.ended_versions.proofs.list.EndedVersions.close_all.Goals as goal

pub loop-version-preserved : goal.loop-version-preserved
loop-version-preserved c =
    let inv = c.loop-version.invariant in
    let moment = c.args.moment in
    let versions : List VersionRow = c.args.versions.now in
    let i = c.loop-version.version-index in
    let version : VersionRow = c.version-item.result in
    let done : List VersionRow = closed_at moment (take i versions) in
    let later : int_eq version.from moment ≡ false = sym c.eq.ensures ∙ c.if-eq.false in
    let next : closed_at moment (take (i + 1) versions) ≡ done ++ ended_at moment version ∷ [] =
    ap (closed_at moment) (take_more versions i version c.loop-version-test.true ∙ ap (λ (v : VersionRow). take i versions ++ v ∷ []) (sym c.version-item.is))
    ∙ (flat_map-append (closed_row moment) (take i versions) (version ∷ [])
    ∙ ap (λ (l : List VersionRow). done ++ l) (append-nil (closed_row moment version) ∙ ap (λ (b : Bool). cond b [] (ended_at moment version ∷ [])) later)) in
    record {
      made =
          c.in_default.ensures.ok
          ∙ (ap (λ (l : List PackedVersion). l ++ packed (ended_at moment version) ∷ []) inv.made
          ∙ (append_assoc c.args.self.now (map packed done) (packed (ended_at moment version) ∷ [])
          ∙ ap (λ (l : List PackedVersion). c.args.self.now ++ l) (sym (map-append packed done (ended_at moment version ∷ [])) ∙ ap (map packed) (sym next))));
      held = subst AreOfColumns (sym next) (All-push (λ (v : VersionRow). All IsColumnValue v.values) done (ended_at moment version) inv.held c.in_default.ensures.held);
      ended = c.in_default.ensures.ended;
    }
