use Rattle.std.proofs.Common.{◌≡◌, ◌∙◌, ℕ, List, Some, ap, arith, get_or, inl, inr, length, map, refl, sym}
use Rattle.std.specs.Borrow.{Bor}
use Rattle.std.specs.Option.{option_map}
use Rattle.std.proofs.lemmas.Bool.{cases_lt, false≢true}
use Rattle.std.proofs.lemmas.List.{get_or-map, length-map}
use Rattle.std.proofs.lemmas.Option.{slice_get-map, slice_get_read}
use Rattle.period_core.specs.declared.version.VersionRow.{VersionRow}
use Rattle.portion_dml.proofs.remaining.place_of.Goals as goal

abbrev now_of : Bor VersionRow → VersionRow
now_of r = r.now

pub loop-i-preserved : goal.loop-i-preserved
loop-i-preserved c = λ k below e.
    let versions : List (Bor VersionRow) = c.args.versions.now in
    let here : Bor VersionRow = c.index-versions-i.result in
    let i : ℕ = c.loop-i.i in
    elim (cases_lt k i) [
      | inl less ↦ c.loop-i.invariant k less e
      | inr more ↦
          let same : k ≡ i = omega (arith, below, more) in
          let at : get_or (map now_of versions) i c.args.version.now ≡ here.now =
          get_or-map now_of versions i here c.args.version.now c.loop-i-test.true ∙ ap now_of (sym c.index-versions-i.is) in
          let equal : here.now ≡ c.args.version.now = sym at ∙ ap (λ n. get_or (map now_of versions) n c.args.version.now) (sym same) ∙ e in
          false≢true (sym c.if-is_same.false ∙ c.is_same.ensures.1 equal)
    ]

pub returns-then-is_same-clause-found : goal.returns-then-is_same-clause-found
returns-then-is_same-clause-found c =
    let versions : List (Bor VersionRow) = c.args.versions.now in
    let here : Bor VersionRow = c.index-versions-i.result in
    slice_get-map now_of versions c.loop-i.i
    ∙ ap (option_map now_of) (slice_get_read versions (length versions) c.loop-i.i here refl c.loop-i-test.true c.index-versions-i.is)
    ∙ ap (λ (v : VersionRow). Some v) (c.is_same.ensures.0 c.if-is_same.true)

pub returns-clause-absent : goal.returns-clause-absent
returns-clause-absent c = λ (k, below, e).
    let size = length-map c.args.versions.now now_of in
    let passed = c.loop-i-test.false in
    c.loop-i.invariant k (omega (arith, below, size, passed)) e
