use Rattle.std.proofs.Common.{◌≡◌, ◌+◌, ◌++◌, ◌∷◌, [], ◌∙◌, ℕ, ℤ, List, map, take, take_all, sym, ap, subst, arith}
use Rattle.std.specs.Borrow.{Bor}
use Rattle.std.proofs.lemmas.List.{map-append, take_more}
use Rattle.temporal_model.proofs.Members.{Contains-nil}
use Rattle.period_keys.specs.Keys.{IsLeastOf}
use Rattle.std.specs.List.{Any, Contains}
use Rattle.std.specs.List.Sorted.{IsPermutation}
use Rattle.period_core.specs.declared.period.Period.{Period}
use Rattle.period_core.specs.declared.row.PeriodRow.{PeriodRow}
use Rattle.period_core.specs.declared.value.Value.{Value}
use Rattle.period_keys.specs.declared.keyed_periods.KeyedPeriods.{KeyedPeriods}
use Rattle.period_keys.specs.Keys.{IsUncovered}
use Rattle.period_keys.specs.Index.{periods_at, periods_of_key}
use Rattle.period_keys.specs.LookUps.{periods_by, periods_of}
use Rattle.period_keys.proofs.Covered.{LosesParent, lost_least, there_afterwards, uncovered_of_parents}
use Rattle.period_keys.proofs.Leasts.{IsLeastOf-same, least_none, least_one_more}
use Rattle.period_keys.proofs.references.uncovered_by_keys.Goals as goal

pub loop-key-init : goal.loop-key-init
loop-key-init c = λ keys before ended stay added is gone_is new_is moved. least_none (λ key day. LosesParent (periods_of_key keys (stay ++ added)) (periods_by c.args.children.now) key day)

-- the key's periods in the indexes, by the clauses of the function that was called
of_indexes : (parents : List Value → List Period) (gone new : KeyedPeriods) (key : List Value) (xs gs ns made there : List Period) → xs ≡ parents key → gs ≡ periods_at gone key → ns ≡ periods_at new key → there ≡ made
    → ((stay : List Period) → IsPermutation xs (gs ++ stay) → IsPermutation made (stay ++ ns))
    → (stay : List Period) → IsPermutation (parents key) (periods_at gone key ++ stay) → IsPermutation there (stay ++ periods_at new key)
of_indexes parents gone new key xs gs ns made there xs_is gs_is ns_is there_is ensured stay split =
    subst (λ (list : List Period). IsPermutation list (stay ++ periods_at new key)) (sym there_is)
    (subst (λ (list : List Period). IsPermutation made (stay ++ list)) ns_is
    (ensured stay (subst (λ (list : List Period). IsPermutation list (gs ++ stay)) (sym xs_is) (subst (λ (list : List Period). IsPermutation (parents key) (list ++ stay)) (sym gs_is) split))))

abbrev values_of_key : Bor (List Value) → List Value
values_of_key k = k.now

pub loop-key-preserved : goal.loop-key-preserved
loop-key-preserved c = λ keys before ended stay added is gone_is new_is moved.
    let items : List (Bor (List Value)) = c.as_slice-key-items.result.now in
    let i : ℕ = c.loop-key.key-index in
    let here : Bor (List Value) = c.key-item.result in
    let key : List Value = here.now in
    let there : List Period = c.runs.result.0.now ++ c.runs.result.1.now in
    let after : List Period = periods_of_key keys (stay ++ added) key in
    let more : map values_of_key (take (i + 1) items) ≡ map values_of_key (take i items) ++ key ∷ [] =
    ap (map values_of_key) (take_more items i here (omega arith) ∙ ap (λ (k : Bor (List Value)). take i items ++ k ∷ []) (sym c.key-item.is)) ∙ map-append values_of_key (take i items) (here ∷ []) in
    let moved_there : IsPermutation there after =
    there_afterwards keys (periods_by c.args.parents.now) c.args.gone.now c.args.new.now before ended stay added key there is moved gone_is new_is
    (of_indexes (periods_by c.args.parents.now) c.args.gone.now c.args.new.now key (periods_of c.of_key.result) c.of_key-in-loop-key.result.now c.of_key-in-loop-key-2.result.now c.in_ok-there.there.items.items there
    c.of_key.ensures c.of_key-in-loop-key.ensures c.of_key-in-loop-key-2.ensures c.runs.ensures c.in_ok-there.ensures) in
    let below_is : c.as_slice.result.now ≡ periods_by c.args.children.now key = c.as_slice.ensures.value ∙ c.in_ok-below.ensures ∙ c.of_key-in-loop-key-3.ensures in
    subst (λ (done : List (List Value)). IsLeastOf (λ day. Any (λ k. LosesParent (periods_of_key keys (stay ++ added)) (periods_by c.args.children.now) k day) done) c.earlier-found.result) (sym more)
    (least_one_more (λ k day. LosesParent (periods_of_key keys (stay ++ added)) (periods_by c.args.children.now) k day) (map values_of_key (take i items)) key c.loop-key.found c.first_gap_of_some.result c.earlier-found.result
    (c.loop-key.invariant keys before ended stay added is gone_is new_is moved)
    (lost_least there after c.as_slice.result.now (periods_by c.args.children.now) key c.first_gap_of_some.result below_is moved_there c.first_gap_of_some.ensures)
    c.earlier-found.ensures)

pub returns : goal.returns
returns c = λ own keys below before ended stay added children_is parents_is gone_is new_is covered moved.
    let items : List (Bor (List Value)) = c.as_slice-key-items.result.now in
    let after : List PeriodRow = stay ++ added in
    let Loses : ℤ → List Value → Type 0 = λ day key. LosesParent (periods_of_key keys after) (periods_by c.args.children.now) key day in
    let done : List (List Value) = map values_of_key c.in_ok-ended_keys.ended_keys.items in
    let all : map values_of_key (take c.loop-key.key-index items) ≡ done = ap (map values_of_key) (take_all c.loop-key.key-index items (omega arith) ∙ c.as_slice-key-items.ensures.value) in
    IsLeastOf-same (λ day. Any (Loses day) done) (IsUncovered own below keys after)
    (uncovered_of_parents own keys below before ended stay added done (periods_by c.args.children.now) (periods_by c.args.parents.now) c.args.gone.now children_is parents_is gone_is
    (λ key p there. (c.in_ok-ended_keys.ensures.exact key).1 (λ none. Contains-nil p (subst (λ (list : List Period). Contains list p) none there))) covered moved)
    c.loop-key.found
    (subst (λ (list : List (List Value)). IsLeastOf (λ day. Any (Loses day) list) c.loop-key.found) all (c.loop-key.invariant keys before ended stay added parents_is gone_is new_is moved))
