use Rattle.std.proofs.Common.{◌≡◌, ◌<◌, ◌++◌, ◌∷◌, [], ◌∙◌, ℕ, List, ap, ap₂, arith, get_or, length, subst, sym, true}
use Rattle.std.specs.List.{filter_map, slice_get}
use Rattle.std.proofs.lemmas.List.{length_push}
use Rattle.period_core.specs.declared.value.Value.{Value}
use Rattle.period_core.specs.declared.version.VersionRow.{VersionRow}
use Rattle.ended_versions.specs.Found.{AreHashes}
use Rattle.ended_versions.specs.Hashes.{has_each, hash_at, hash_of}
use Rattle.ended_versions.specs.Packed.{PackedVersion}
use Rattle.ended_versions.proofs.FoundFacts.{hashes_more}
use Rattle.ended_versions.proofs.chained_values.ChainedValues.extend.Goals as goal

pub places-preserved : goal.places-preserved
places-preserved c =
    let positions : List ℕ = c.places.self.positions in
    let versions : List PackedVersion = c.args.versions.now in
    let hashes : List ℕ = c.places.self.hashes in
    let version : VersionRow = c.in_ok-version.version in
    let at : c.places.place ≡ length hashes = c.places.invariant.next in
    let inside : length hashes < length versions = omega arith in
    let its : (ps : List ℕ) (vs : List Value) → ps ≡ positions → vs ≡ version.values → hash_of (filter_map (slice_get vs) ps) ≡ hash_at positions version =
    λ (ps : List ℕ) (vs : List Value) (p : ps ≡ positions) (v : vs ≡ version.values). ap₂ (λ (qs : List ℕ) (ws : List Value). hash_of (filter_map (slice_get ws) qs)) p v in
    let hash : c.in_ok-hash.hash ≡ hash_at positions version =
    c.in_ok-hash.ensures ∙ its c.as_slice-positions.result.now c.as_slice-values.result.now c.as_slice-positions.ensures c.as_slice-values.ensures in
    let whole : has_each positions version.values ≡ true =
    sym (ap₂ has_each c.as_slice-positions.ensures c.as_slice-values.ensures) ∙ (sym c.has_each.ensures ∙ c.if-not-has_each.false) in
    record {
      chained = subst (AreHashes positions versions) (sym (c.in_ok-push.ensures.ok ∙ ap (λ (h : ℕ). hashes ++ h ∷ []) hash))
          (hashes_more positions versions hashes version c.places.invariant.chained inside c.in_ok-version.ensures.held whole
          (λ d. c.in_ok-version.ensures.same d ∙ ap (λ (n : ℕ). get_or versions n d) at));
      next = (let size = length_push hashes c.in_ok-hash.hash in let made = ap length c.in_ok-push.ensures.ok in omega (arith, at, size, made));
    }
