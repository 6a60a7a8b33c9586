use Rattle.std.proofs.Common.{◌≡◌, ◌+◌, ◌++◌, ◌∷◌, [], ◌∙◌, ℕ, ℤ, List, map, take, take_all, sym, ap, subst, arith}
use Rattle.std.specs.Borrow.{Bor}
use Rattle.std.specs.List.{Any}
use Rattle.std.proofs.lemmas.List.{map-append, take_more}
use Rattle.period_core.specs.declared.period.Period.{Period}
use Rattle.period_core.specs.declared.value.Value.{Value}
use Rattle.period_keys.specs.Keys.{IsLeastOf}
use Rattle.period_keys.specs.Gaps.{IsGap, LacksKeyOf}
use Rattle.period_keys.specs.Index.{periods_at}
use Rattle.period_keys.specs.LookUps.{periods_by, periods_of}
use Rattle.period_keys.proofs.Covered.{LosesParent, lacking_by_key}
use Rattle.period_keys.proofs.Leasts.{IsLeastOf-same, least_none, least_one_more}
use Rattle.period_keys.proofs.references.least_lack_of_keys.Goals as goal

abbrev values_of_key : Bor (List Value) → List Value
values_of_key k = k.now

pub loop-key-init : goal.loop-key-init
loop-key-init c = least_none (λ key day. LosesParent (periods_by c.args.parents.now) (periods_at c.args.children.now) key day)

-- the gaps of the children of a key
of_key : (cs children periods there : List Period) (found : _) → cs ≡ children → there ≡ periods → IsLeastOf (λ day. Any (λ child. IsGap there child day) cs) found → IsLeastOf (λ day. Any (λ child. IsGap periods child day) children) found
of_key cs children periods there found cs_is there_is least = subst (λ (list : List Period). IsLeastOf (λ day. Any (λ child. IsGap list child day) children) found) there_is
    (subst (λ (list : List Period). IsLeastOf (λ day. Any (λ child. IsGap there child day) list) found) cs_is least)

pub loop-key-preserved : goal.loop-key-preserved
loop-key-preserved c =
    let items : List (Bor (List Value)) = c.as_slice-key-items.result.now in
    let i : ℕ = c.loop-key.key-index in
    let here : Bor (List Value) = c.key-item.result in
    let key : List Value = here.now in
    let Loses : List Value → ℤ → Type 0 = λ k day. LosesParent (periods_by c.args.parents.now) (periods_at c.args.children.now) k day in
    let more : map values_of_key (take (i + 1) items) ≡ map values_of_key (take i items) ++ key ∷ [] =
    ap (map values_of_key) (take_more items i here (omega arith) ∙ ap (λ (k : Bor (List Value)). take i items ++ k ∷ []) (sym c.key-item.is)) ∙ map-append values_of_key (take i items) (here ∷ []) in
    subst (λ (done : List (List Value)). IsLeastOf (λ day. Any (λ k. Loses k day) done) c.earlier-found.result) (sym more)
    (least_one_more Loses (map values_of_key (take i items)) key c.loop-key.found c.first_gap_of_some.result c.earlier-found.result c.loop-key.invariant
    (of_key c.of_key-in-loop-key.result.now (periods_at c.args.children.now key) (periods_by c.args.parents.now key) (periods_of c.of_key.result) c.first_gap_of_some.result c.of_key-in-loop-key.ensures c.of_key.ensures c.first_gap_of_some.ensures)
    c.earlier-found.ensures)

pub returns : goal.returns
returns c = λ own rows is.
    let items : List (Bor (List Value)) = c.as_slice-key-items.result.now in
    let Loses : ℤ → List Value → Type 0 = λ day key. LosesParent (periods_by c.args.parents.now) (periods_at c.args.children.now) key day in
    let done : List (List Value) = map values_of_key c.in_ok-keys.keys.items in
    let all : map values_of_key (take c.loop-key.key-index items) ≡ done = ap (map values_of_key) (take_all c.loop-key.key-index items (omega arith) ∙ c.as_slice-key-items.ensures.value) in
    IsLeastOf-same (λ day. Any (Loses day) done) (LacksKeyOf own rows (periods_by c.args.parents.now))
    (lacking_by_key own rows c.args.children.now (periods_by c.args.parents.now) done is c.in_ok-keys.ensures.exact) c.loop-key.found
    (subst (λ (list : List (List Value)). IsLeastOf (λ day. Any (Loses day) list) c.loop-key.found) all c.loop-key.invariant)
