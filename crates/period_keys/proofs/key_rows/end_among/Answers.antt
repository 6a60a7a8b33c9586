use Rattle.std.proofs.Common.{◌≡◌, ◌+◌, ◌++◌, ◌∷◌, [], List, map, take, refl, sym, ◌∙◌, ap, subst, inl, inr, arith}
use Rattle.std.specs.List.{Any, Contains}
use Rattle.std.proofs.lemmas.List.{map-append, take_more, take_all}
use Rattle.std.proofs.lemmas.List.Elements.{Contains-get_or}
use Rattle.period_core.specs.declared.period.Period.{Period}
use Rattle.period_core.specs.declared.version.VersionRow.{VersionRow}
use Rattle.period_keys.specs.Keys.{IsWithin}
use Rattle.period_keys.specs.Gaps.{IsHeld}
use Rattle.period_keys.specs.Versions.{period_of}
use Rattle.period_keys.proofs.Members.{some_member, in_map, Any-append, Any-one}
use Rattle.period_keys.proofs.key_rows.end_among.Goals as goal

pub returns-then-contains_day : goal.returns-then-contains_day
returns-then-contains_day c =
    let rows : List VersionRow = c.args.rows.now in
    let row : VersionRow = c.row-item.result in
    let there : Contains rows row = subst (Contains rows) (sym c.row-item.is) (Contains-get_or rows c.loop-row.row-index row (omega arith)) in
    some_member (λ (period : Period). IsWithin period c.args.day × (period.end ≡ row.period.end)) (map period_of rows) row.period (in_map period_of rows row there) (c.if-contains_day.ensures.days.0 refl, refl)

pub loop-row-preserved : goal.loop-row-preserved
loop-row-preserved c = λ held.
    let rows : List VersionRow = c.args.rows.now in
    let i = c.loop-row.row-index in
    let row : VersionRow = c.row-item.result in
    let more : map period_of (take (i + 1) rows) ≡ map period_of (take i rows) ++ row.period ∷ [] =
    ap (map period_of) (take_more rows i row (omega arith) ∙ ap (λ x. take i rows ++ x ∷ []) (sym c.row-item.is)) ∙ map-append period_of (take i rows) (row ∷ []) in
    let P : Period → Type 0 = λ period. IsWithin period c.args.day in
    elim ((Any-append P (map period_of (take i rows)) (row.period ∷ [])).0 (subst (λ (list : List Period). Any P list) more held)) [
      | inl old ↦ c.loop-row.invariant old
      | inr one ↦ (let within : IsWithin row.period c.args.day = (Any-one P row.period).0 one in
          let wrong = c.if-contains_day.ensures.days.1 within in cc)
    ]

pub returns : goal.returns
returns c = λ held.
    let all : take c.loop-row.row-index c.args.rows.now ≡ c.args.rows.now = take_all _ _ (omega arith) in
    c.loop-row.invariant (subst (λ (list : List VersionRow). IsHeld (map period_of list) c.args.day) (sym all) held)
