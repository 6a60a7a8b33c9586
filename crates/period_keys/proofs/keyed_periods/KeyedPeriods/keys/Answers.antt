use Rattle.std.proofs.Common.{◌≡◌, ◌∙◌, ◌++◌, ◌∷◌, [], cond, length, not, List, Bool, true, false, map, sym, ap, subst, append_assoc, append-nil, filter}
use Rattle.std.specs.Prelude.{◌==◌, Contains}
use Rattle.std.specs.Borrow.{Bor}
use Rattle.std.specs.BTreeMap.{keys}
use Rattle.std.specs.List.Sorted.{IsStrictlySortedBy}
use Rattle.std.proofs.lemmas.List.{map-append}
use Rattle.std.proofs.lemmas.List.Elements.{filter-append}
use Rattle.std.proofs.lemmas.List.Kept.{IsStrictlySortedBy-filter}
use Rattle.std.proofs.lemmas.Map.Made.{is_member-Decides}
use Rattle.period_core.specs.Order.{values_cmp}
use Rattle.period_core.specs.OrderLaws.{values_eq}
use Rattle.period_core.specs.declared.period.Period.{Period}
use Rattle.period_core.specs.declared.value.Value.{Value}
use Rattle.period_keys.proofs.Members.{from_filter, in_filter}
use Rattle.period_keys.proofs.Periods.{has_entry, has_period, has_some, some_has}
use Rattle.period_keys.proofs.keyed_periods.KeyedPeriods.keys.Goals as goal

pub loop-key-init : goal.loop-key-init
loop-key-init c = ([], c.into_iter-key-iterator.ensures.into_iter_gives ∙ c.keys-key-items.ensures.rest, ap (map (λ (k : Bor (List Value)). k.now)) c.new-keys.ensures.items)

-- one key more, which the list has or drops
kept_more : (p : List Value → Bool) (done : List (List Value)) (key : List Value) (b : Bool) (was now : List (List Value)) → p key ≡ b → was ≡ filter p done → now ≡ was ++ cond b (key ∷ []) [] → now ≡ filter p (done ++ key ∷ [])
kept_more p done key b was now passes before after =
    after ∙ ap (λ l. l ++ cond b (key ∷ []) []) before ∙ ap (λ v. filter p done ++ cond v (key ∷ []) []) (sym passes) ∙ sym (filter-append p done (key ∷ []))

abbrev now_of : Bor (List Value) → List Value
now_of k = k.now

pub loop-key-preserved : goal.loop-key-preserved
loop-key-preserved c =
    let (done, all, kept) = c.loop-key.invariant in
    let index = c.args.self.now in
    let key : List Value = c.in-Some.key.now in
    let rest : List (List Value) = c.next.new.self in
    let left : c.loop-key.key-iterator ≡ key ∷ rest = c.in-Some.ensures.steps in
    let was : List (List Value) = map now_of c.loop-key.keys.items in
    let none : has_period index key ≡ false = ap (λ (xs : List Period). not (length xs == 0)) (sym c.of_key.ensures) ∙ ap not (sym c.is_empty.ensures ∙ c.if-not-is_empty.false) in (
      done ++ key ∷ [],
      append_assoc done (key ∷ []) rest ∙ ap (λ (l : List (List Value)). done ++ l) (sym left) ∙ all,
      kept_more (has_period index) done key false was was none kept (sym (append-nil was)),
    )

pub loop-key-preserved-in-Continue-1 : goal.loop-key-preserved-in-Continue-1
loop-key-preserved-in-Continue-1 c =
    let (done, all, kept) = c.loop-key.invariant in
    let index = c.args.self.now in
    let key : List Value = c.in-Some.key.now in
    let rest : List (List Value) = c.next.new.self in
    let left : c.loop-key.key-iterator ≡ key ∷ rest = c.in-Some.ensures.steps in
    let was : List (List Value) = map now_of c.loop-key.keys.items in
    let some : has_period index key ≡ true = ap (λ (xs : List Period). not (length xs == 0)) (sym c.of_key.ensures) ∙ ap not (sym c.is_empty.ensures ∙ c.if-not-is_empty.true) in (
      done ++ key ∷ [],
      append_assoc done (key ∷ []) rest ∙ ap (λ (l : List (List Value)). done ++ l) (sym left) ∙ all,
      kept_more (has_period index) done key true was (map now_of c.push.new.self.items) some kept (ap (map now_of) c.in_ok-push.ensures.items ∙ map-append now_of c.loop-key.keys.items _),
    )

pub returns-clause-ascending : goal.returns-clause-ascending
returns-clause-ascending c =
    let (done, all, kept) = c.loop-key.invariant in
    let whole : done ≡ keys c.args.self.now.entries = sym (append-nil done) ∙ ap (λ (rest : List (List Value)). done ++ rest) (sym c.in-None.ensures.steps.0) ∙ all in
    subst (IsStrictlySortedBy values_cmp) (sym (kept ∙ ap (filter (has_period c.args.self.now)) whole))
    (IsStrictlySortedBy-filter values_cmp (has_period c.args.self.now) (keys c.args.self.now.entries) c.keys-key-items.ensures.ordered)

pub returns-clause-exact : goal.returns-clause-exact
returns-clause-exact c = λ key.
    let (done, all, kept) = c.loop-key.invariant in
    let index = c.args.self.now in
    let whole : done ≡ keys index.entries = sym (append-nil done) ∙ ap (λ (rest : List (List Value)). done ++ rest) (sym c.in-None.ensures.steps.0) ∙ all in
    let listed : c.keys-key-items.result ≡ keys index.entries = c.keys-key-items.ensures.rest in (
      λ among. has_some index key (from_filter (has_period index) done key (subst (λ (l : List (List Value)). Contains l key) kept among)).1,
      λ some.
          let there : Contains c.keys-key-items.result key =
          (is_member-Decides (λ a b. values_eq a b) c.keys-key-items.result key).0 (sym (c.keys-key-items.ensures.has key) ∙ has_entry index key some) in
          subst (λ (l : List (List Value)). Contains l key) (sym kept)
          (in_filter (has_period index) done key (subst (λ (l : List (List Value)). Contains l key) (listed ∙ sym whole) there) (some_has index key some)),
    )
