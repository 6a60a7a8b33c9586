-- Chains of places: one place more, and one less.
use Rattle.std.proofs.Common.{◌≡◌, ◌≤◌, ◌<◌, ◌+◌, ◌++◌, ◌∷◌, [], ◌∙◌, ℕ, Bool, true, false, cond, List, Option, None, Some, length, get_or, refl, sym, ap, subst, inl, inr, arith}
use Rattle.std.specs.Prelude.{unwrap_or}
use Rattle.std.specs.BTreeMap.{BTreeMap, get}
use Rattle.std.specs.Ordering.{is_eq, nat_cmp}
use Rattle.std.proofs.lemmas.Bool.{cases_eq, cases_lt}
use Rattle.std.proofs.lemmas.Cmp.{by_ranked, nat_cmp_total, ranked, tied_itself}
use Rattle.std.proofs.lemmas.List.{get_or_append_left, get_or_push, length-map, length_push, map_push}
use Rattle.ended_versions.specs.Chains.{AreChained, IsLastPlace, behind, hashes}
use Rattle.ended_versions.specs.declared.chains.Link.{Link}

-- ---- the test of hashes

at_key : (key q : ℕ) → key ≡ q → is_eq (nat_cmp key q) ≡ true
at_key key q same = ap (λ (n : ℕ). is_eq (nat_cmp key n)) (sym same) ∙ ap is_eq (tied_itself nat_cmp_total key)

at_other : (key q : ℕ) → (key ≡ q → ⊥) → is_eq (nat_cmp key q) ≡ false
at_other key q apart =
    by_ranked (key < q) (key ≡ q) (q < key) (nat_cmp key q) (ranked key q (nat_cmp key q) refl)
    (λ e less. ap is_eq e) (λ e same. absurd (apart same)) (λ e greater. ap is_eq e)

-- after a write at a key the map has the written value there, and else what it had
abbrev pub Writes : BTreeMap ℕ ℕ → BTreeMap ℕ ℕ → ℕ → Option ℕ → Type 0
Writes last after key place = (q : ℕ) → get nat_cmp after q ≡ cond (is_eq (nat_cmp key q)) place (get nat_cmp last q)

written_here : (last after : BTreeMap ℕ ℕ) (key q : ℕ) (place : Option ℕ) → Writes last after key place → key ≡ q → get nat_cmp after q ≡ place
written_here last after key q place writes same = writes q ∙ ap (λ (b : Bool). cond b place (get nat_cmp last q)) (at_key key q same)

written_there : (last after : BTreeMap ℕ ℕ) (key q : ℕ) (place : Option ℕ) → Writes last after key place → (key ≡ q → ⊥) → get nat_cmp after q ≡ get nat_cmp last q
written_there last after key q place writes apart = writes q ∙ ap (λ (b : Bool). cond b place (get nat_cmp last q)) (at_other key q apart)

-- ---- the last place before a bound

some_is : (p q : ℕ) → Some p ≡ Some q → p ≡ q
some_is p q e = ap (λ (o : Option ℕ). unwrap_or o p) e

inside : (all : List ℕ) (bound hash : ℕ) (place : Option ℕ) (p : ℕ) → IsLastPlace all bound hash place → place ≡ Some p → p < bound
inside all bound hash place p is e = (let within : p + 1 ≤ bound = subst (λ (o : Option ℕ). behind o ≤ bound) e is.within in omega (arith, within))

-- lists that agree before the bound have the same last place of a hash
along : (all other : List ℕ) (bound hash : ℕ) (place : Option ℕ) → ((k d : ℕ) → k < bound → get_or all k d ≡ get_or other k d) → IsLastPlace all bound hash place → IsLastPlace other bound hash place
along all other bound hash place same is = record {
  within = is.within;
  there = λ p d e. sym (same p d (inside all bound hash place p is e)) ∙ is.there p d e;
  only = λ k d from below e. is.only k d from below (same k d below ∙ e);
}

-- the last place before a bound that is one greater, if the hash at the bound is another
higher : (all : List ℕ) (bound hash : ℕ) (place : Option ℕ) → ((d : ℕ) → get_or all bound d ≡ hash → ⊥) → IsLastPlace all bound hash place → IsLastPlace all (bound + 1) hash place
higher all bound hash place none is = record {
  within = (let was = is.within in omega (arith, was));
  there = is.there;
  only = λ k d from below e. elim (cases_lt k bound) [
    | inl lt ↦ is.only k d from lt e
    | inr ge ↦ none d (subst (λ (n : ℕ). get_or all n d ≡ hash) (omega arith) e)
  ];
}

-- the last place of a hash stays if a later place has another hash
lower : (all : List ℕ) (bound hash : ℕ) (place : Option ℕ) → ((d : ℕ) → get_or all bound d ≡ hash → ⊥) → IsLastPlace all (bound + 1) hash place → IsLastPlace all bound hash place
lower all bound hash None none is = record {
  within = omega arith;
  there = is.there;
  only = λ k d from below e. is.only k d from (omega arith) e;
}
lower all bound hash (Some p) none is = record {
  within = elim (cases_eq p bound) [
    | inl e ↦ absurd (none 0 (subst (λ (n : ℕ). get_or all n 0 ≡ hash) e (is.there p 0 refl)))
    | inr ne ↦ (let was : p + 1 ≤ bound + 1 = is.within in omega (arith, was, ne))
  ];
  there = is.there;
  only = λ k d from below e. is.only k d from (omega arith) e;
}

-- ---- one place more

module _ (links : List Link) (link : Link) where
  abbrev longer : List Link
  longer = links ++ link ∷ []

  abbrev n : ℕ
  n = length links

  as_many : length (hashes links) ≡ length links
  as_many = length-map links (λ (l : Link). l.hash)

  same_hashes : (k d : ℕ) → k < n → get_or (hashes links) k d ≡ get_or (hashes longer) k d
  same_hashes k d below =
      sym
      (ap (λ (l : List ℕ). get_or l k d) (map_push (λ (l : Link). l.hash) links link)
      ∙ get_or_append_left (hashes links) (link.hash ∷ []) d k (omega (arith, as_many)))

  its_hash : (d : ℕ) → get_or (hashes longer) n d ≡ link.hash
  its_hash d =
      ap (λ (l : List ℕ). get_or l n d) (map_push (λ (l : Link). l.hash) links link)
      ∙ get_or_push (hashes links) link.hash d n as_many

  same_link : (k : ℕ) (d : Link) → k < n → get_or longer k d ≡ get_or links k d
  same_link k d below = get_or_append_left links (link ∷ []) d k below

  its_link : (d : Link) → get_or longer n d ≡ link
  its_link d = get_or_push links link d n refl

  other_hash : (q : ℕ) → (link.hash ≡ q → ⊥) → (d : ℕ) → get_or (hashes longer) n d ≡ q → ⊥
  other_hash q apart d e = apart (sym (its_hash d) ∙ e)

  abbrev LinkIs : List ℕ → ℕ → Link → Type 0
  LinkIs all place l = IsLastPlace all place l.hash l.before

  -- ---- one place less

  pub chained_less : (last after : BTreeMap ℕ ℕ) → AreChained longer last → Writes last after link.hash link.before → AreChained links after
  chained_less last after are writes = record {
    last_of = λ q. elim (cases_eq link.hash q) [
      | inl same ↦ subst (IsLastPlace (hashes links) n q) (sym (written_here last after link.hash q link.before writes same)) (subst (λ (h : ℕ). IsLastPlace (hashes links) n h link.before) same latest)
      | inr apart ↦ subst (IsLastPlace (hashes links) n q) (sym (written_there last after link.hash q link.before writes apart)) (still q apart)
    ];
    before = λ place d below. along (hashes longer) (hashes links) place (get_or links place d).hash (get_or links place d).before (λ k e inner. sym (same_hashes k e (omega arith)))
        (subst (LinkIs (hashes longer) place) (same_link place d below) (are.before place d (let size = length_push links link in omega (arith, size))));
  }
    where
      latest : IsLastPlace (hashes links) n link.hash link.before
      latest =
          along (hashes longer) (hashes links) n link.hash link.before (λ k e inner. sym (same_hashes k e inner))
          (subst (LinkIs (hashes longer) n) (its_link link) (are.before n link (let size = length_push links link in omega (arith, size))))

      still : (q : ℕ) → (link.hash ≡ q → ⊥) → IsLastPlace (hashes links) n q (get nat_cmp last q)
      still q apart =
          along (hashes longer) (hashes links) n q (get nat_cmp last q) (λ k e inner. sym (same_hashes k e inner))
          (lower (hashes longer) n q (get nat_cmp last q) (other_hash q apart)
          (subst (λ (bound : ℕ). IsLastPlace (hashes longer) bound q (get nat_cmp last q)) (length_push links link) (are.last_of q)))

  -- the map has the place that is removed
  pub still_there : (last : BTreeMap ℕ ℕ) → AreChained longer last → get nat_cmp last link.hash ≡ None → ⊥
  still_there last are none =
      let is : IsLastPlace (hashes longer) (length longer) link.hash None = subst (IsLastPlace (hashes longer) (length longer) link.hash) none (are.last_of link.hash) in
      is.only n 0 (omega arith) (let size = length_push links link in omega (arith, size)) (its_hash 0)
