-- The steps of a difference and of an intersection: two ascending lists, each gone over once.
use Rattle.std.proofs.Common.{◌≡◌, ◌↔◌, ◌⊎◌, List, [], ◌∷◌, ◌++◌, length, get_or, inl, inr, refl, sym, ◌∙◌, ap, subst, arith, append_assoc, append-nil}
use Rattle.std.specs.List.{Contains}
use Rattle.std.specs.declared.cmp.Ordering.TheVariants.{Less, Equal}
use Rattle.std.proofs.lemmas.List.Elements.{Contains-append_left, Contains-push, Contains-push_cases}
use Rattle.std.proofs.lemmas.List.{get_or_default, nil_from_length}
use Rattle.std.proofs.lemmas.List.Quantifiers.{all_pairs_push}
use Rattle.period_core.specs.Order.{values_cmp}
use Rattle.period_core.specs.OrderLaws.{values_cmp_total, values_cmp-refl}
use Rattle.period_core.specs.declared.value.Value.{Value}
use Rattle.temporal_model.proofs.Members.{Contains-here, Contains-there, Contains-nil, Contains-cons_cases, AllPairs-head, AllPairs-tail}
use Rattle.sql_statements.specs.declared.tree.SetOperator.{SetOperator}
use Rattle.sql_statements.specs.declared.tree.SetOperator.TheVariants.{Union, Except, Intersect}
use Rattle.history_model.specs.OrdinaryQuery.{InCombined}
use Rattle.snapshot_audit.specs.Sets.{IsAscending, ListsSet, NoneBelow}

not_less_itself : (values : List Value) → values_cmp values values ≡ Less → ⊥
not_less_itself values less = let tie : values_cmp values values ≡ Equal = values_cmp-refl values in cc

-- the first of the right set, none of which is less, are the values, or they are not in it
pub first_alone :
    (values first : List Value) (others : List (List Value)) → IsAscending (first ∷ others) → NoneBelow values (first ∷ others)
    → Contains (first ∷ others) values → first ≡ values
first_alone values first others up none c = elim (Contains-cons_cases first others values c) [
  | inl same ↦ same
  | inr more ↦ absurd (none first (Contains-here first others) (AllPairs-head (λ a b. values_cmp a b ≡ Less) first others up values more))
]

-- the right set is done up to the rest: all before the rest is less than each that comes
pub record IsDoneWith (right others rest : List (List Value)) : Type 0 where
  pub ascending : IsAscending others
  pub inside : (other : List Value) → Contains others other → Contains right other
  pub passed : (other : List Value) → Contains right other
      → (Contains others other ⊎ ((later : List Value) → Contains rest later → values_cmp other later ≡ Less))

pub done_with_none : (right rest : List (List Value)) → IsAscending right → IsDoneWith right right rest
done_with_none right rest up = record { ascending = up; inside = λ other c. c; passed = λ other c. inl c }

-- the rest of the right set, without values below the next ones
pub record AreNotBelow (values : List Value) (others next : List (List Value)) : Type 0 where
  pub ascending : IsAscending next
  pub inside : (other : List Value) → Contains next other → Contains others other
  pub passed : (other : List Value) → Contains others other → (Contains next other ⊎ (values_cmp other values ≡ Less))
  pub bound : NoneBelow values next

pub done_with_more :
    (right others next rest : List (List Value)) (values : List Value) → IsAscending (values ∷ rest)
    → IsDoneWith right others (values ∷ rest) → AreNotBelow values others next → IsDoneWith right next rest
done_with_more right others next rest values up is by = record {
  ascending = by.ascending;
  inside = λ other c. is.inside other (by.inside other c);
  passed = λ other c. elim (is.passed other c) [
    | inl here ↦ elim (by.passed other here) [
      | inl left ↦ inl left
      | inr less ↦ inr (λ later l. values_cmp_total.trans other values later less (AllPairs-head (λ a b. values_cmp a b ≡ Less) values rest up later l))
    ]
    | inr before ↦ inr (λ later l. before later (Contains-there values rest later l))
  ];
}

-- the next values are in the right set if they are among the others that are left
pub among_right :
    (right others next rest : List (List Value)) (values : List Value) → IsDoneWith right others (values ∷ rest)
    → AreNotBelow values others next → (Contains next values ↔ Contains right values)
among_right right others next rest values is by = (
  λ c. is.inside values (by.inside values c),
  λ c. elim (is.passed values c) [
    | inl here ↦ elim (by.passed values here) [
      | inl left ↦ left
      | inr less ↦ absurd (not_less_itself values less)
    ]
    | inr before ↦ absurd (not_less_itself values (before values (Contains-here values rest)))
  ],
)

-- the right set lacks the values
abbrev pub Lacks : List (List Value) → List Value → Type 0
Lacks right values = Contains right values → ⊥

-- the values of the done part of the left set that remain
pub record AreKept (Keeps : List Value → Type 0) (done rest set : List (List Value)) : Type 0 where
  pub ascending : IsAscending set
  pub below : (a b : List Value) → Contains set a → Contains rest b → values_cmp a b ≡ Less
  pub members : (values : List Value) → (Contains set values ↔ (Contains done values × Keeps values))

pub kept_none : (Keeps : List Value → Type 0) (rest : List (List Value)) → AreKept Keeps [] rest []
kept_none Keeps rest = record {
  ascending = λ i j d lt below. absurd (omega arith);
  below = λ a b c k. absurd (Contains-nil a c);
  members = λ values. (λ c. absurd (Contains-nil values c), λ (c, keeps). absurd (Contains-nil values c));
}

pub one_kept :
    (Keeps : List Value → Type 0) (done rest set : List (List Value)) (values : List Value) → IsAscending (values ∷ rest)
    → Keeps values → AreKept Keeps done (values ∷ rest) set
    → AreKept Keeps (done ++ values ∷ []) rest (set ++ values ∷ [])
one_kept Keeps done rest set values up keeps is = record {
  ascending = all_pairs_push (λ a b. values_cmp a b ≡ Less) set values is.ascending
      (λ k d h. is.below (get_or set k d) values (k, h, get_or_default set k (get_or set k d) d h) (Contains-here values rest));
  below = λ a b c k. elim (Contains-push_cases set values a c) [
    | inl before ↦ is.below a b before (Contains-there values rest b k)
    | inr same ↦ subst (λ v. values_cmp v b ≡ Less) same (AllPairs-head (λ x y. values_cmp x y ≡ Less) values rest up b k)
  ];
  members = λ other. (
    λ c. elim (Contains-push_cases set values other c) [
      | inl before ↦ let (there, kept) = (is.members other).0 before in (Contains-append_left done (values ∷ []) other there, kept)
      | inr same ↦ subst (λ v. Contains (done ++ values ∷ []) v × Keeps v) same (Contains-push done values, keeps)
    ],
    λ (c, kept). elim (Contains-push_cases done values other c) [
      | inl before ↦ Contains-append_left set (values ∷ []) other ((is.members other).1 (before, kept))
      | inr same ↦ subst (Contains (set ++ values ∷ [])) same (Contains-push set values)
    ],
  );
}

pub one_dropped :
    (Keeps : List Value → Type 0) (done rest set : List (List Value)) (values : List Value) → (Keeps values → ⊥)
    → AreKept Keeps done (values ∷ rest) set → AreKept Keeps (done ++ values ∷ []) rest set
one_dropped Keeps done rest set values drops is = record {
  ascending = is.ascending;
  below = λ a b c k. is.below a b c (Contains-there values rest b k);
  members = λ other. (
    λ c. let (inside, kept) = (is.members other).0 c in (Contains-append_left done (values ∷ []) other inside, kept),
    λ (c, kept). elim (Contains-push_cases done values other c) [
      | inl before ↦ (is.members other).1 (before, kept)
      | inr same ↦ absurd (drops (subst Keeps (sym same) kept))
    ],
  );
}

-- ---- the whole of it

-- of the left set what is done and what is left, of the right set the rest, and the remaining values
pub record ArePicked (Keeps : List Value → Type 0) (left right done rest others set : List (List Value)) : Type 0 where
  pub all : done ++ rest ≡ left
  pub ascending : IsAscending rest
  pub done_with : IsDoneWith right others rest
  pub kept : AreKept Keeps done rest set

module _ (Keeps : List Value → Type 0) (left right : List (List Value)) where
  pub picked_none : IsAscending left → IsAscending right → ArePicked Keeps left right [] left right []
  picked_none up down = record { all = refl; ascending = up; done_with = done_with_none right left down; kept = kept_none Keeps left }

  module _ (done was rest others next set : List (List Value)) (values : List Value) where
    -- the next values are in the right set if they are among the others that are left
    pub picked_among :
        was ≡ values ∷ rest → AreNotBelow values others next → ArePicked Keeps left right done was others set
        → (Contains next values ↔ Contains right values)
    picked_among is by old = among_right right others next rest values (subst (IsDoneWith right others) is old.done_with) by

    pub picked_one :
        was ≡ values ∷ rest → AreNotBelow values others next → ArePicked Keeps left right done was others set
        → Keeps values → ArePicked Keeps left right (done ++ values ∷ []) rest next (set ++ values ∷ [])
    picked_one is by old keeps =
        let up : IsAscending (values ∷ rest) = subst IsAscending is old.ascending in
        record {
          all = append_assoc done (values ∷ []) rest ∙ ap (λ l. done ++ l) (sym is) ∙ old.all;
          ascending = AllPairs-tail (λ a b. values_cmp a b ≡ Less) values rest up;
          done_with = done_with_more right others next rest values up (subst (IsDoneWith right others) is old.done_with) by;
          kept = one_kept Keeps done rest set values up keeps (subst (λ l. AreKept Keeps done l set) is old.kept);
        }

    pub picked_not :
        was ≡ values ∷ rest → AreNotBelow values others next → ArePicked Keeps left right done was others set
        → (Keeps values → ⊥) → ArePicked Keeps left right (done ++ values ∷ []) rest next set
    picked_not is by old drops =
        let up : IsAscending (values ∷ rest) = subst IsAscending is old.ascending in
        record {
          all = append_assoc done (values ∷ []) rest ∙ ap (λ l. done ++ l) (sym is) ∙ old.all;
          ascending = AllPairs-tail (λ a b. values_cmp a b ≡ Less) values rest up;
          done_with = done_with_more right others next rest values up (subst (IsDoneWith right others) is old.done_with) by;
          kept = one_dropped Keeps done rest set values drops (subst (λ l. AreKept Keeps done l set) is old.kept);
        }

  pub picked_all :
      (done rest others set : List (List Value)) → length rest ≡ 0 → ArePicked Keeps left right done rest others set
      → ListsSet (λ values. Contains left values × Keeps values) set
  picked_all done rest others set none old =
      let is : rest ≡ [] = nil_from_length rest none in
      let all : done ≡ left = sym (append-nil done) ∙ ap (λ l. done ++ l) (sym is) ∙ old.all in
      record {
        ascending = old.kept.ascending;
        members = λ values. subst (λ l. Contains set values ↔ (Contains l values × Keeps values)) all (old.kept.members values);
      }

-- the right set without some of the first ones, which are less than the values
pub record ArePassed (values : List Value) (others rest : List (List Value)) : Type 0 where
  pub ascending : IsAscending rest
  pub inside : (other : List Value) → Contains rest other → Contains others other
  pub passed : (other : List Value) → Contains others other → (Contains rest other ⊎ (values_cmp other values ≡ Less))

pub passed_none : (values : List Value) (others : List (List Value)) → IsAscending others → ArePassed values others others
passed_none values others up = record { ascending = up; inside = λ other c. c; passed = λ other c. inl c }

pub passed_more :
    (values first : List Value) (others after : List (List Value)) → values_cmp first values ≡ Less
    → ArePassed values others (first ∷ after) → ArePassed values others after
passed_more values first others after less is = record {
  ascending = AllPairs-tail (λ a b. values_cmp a b ≡ Less) first after is.ascending;
  inside = λ other c. is.inside other (Contains-there first after other c);
  passed = λ other c. elim (is.passed other c) [
    | inl here ↦ elim (Contains-cons_cases first after other here) [
      | inl same ↦ inr (subst (λ v. values_cmp v values ≡ Less) same less)
      | inr more ↦ inl more
    ]
    | inr before ↦ inr before
  ];
}

-- if the first is not less, none is
pub none_below_from :
    (values first : List Value) (after : List (List Value)) → (values_cmp first values ≡ Less → ⊥) → IsAscending (first ∷ after)
    → NoneBelow values (first ∷ after)
none_below_from values first after bound up other c less = elim (Contains-cons_cases first after other c) [
  | inl same ↦ bound (subst (λ v. values_cmp v values ≡ Less) (sym same) less)
  | inr more ↦ bound (values_cmp_total.trans first other values (AllPairs-head (λ a b. values_cmp a b ≡ Less) first after up other more) less)
]

-- a set operator over two lists gives a list of the operator over their sets
pub combined_lists :
    (operator : SetOperator) (InLeft InRight : List Value → Type 0) (left right set : List (List Value)) → ListsSet InLeft left
    → ListsSet InRight right → ListsSet (InCombined operator (Contains left) (Contains right)) set
    → ListsSet (InCombined operator InLeft InRight) set
combined_lists Union InLeft InRight left right set l r is = record {
  ascending = is.ascending;
  members = λ values. (
    λ h. elim ((is.members values).0 h) [ inl a ↦ inl ((l.members values).0 a) | inr b ↦ inr ((r.members values).0 b) ],
    λ h. (is.members values).1 (elim h [ inl a ↦ inl ((l.members values).1 a) | inr b ↦ inr ((r.members values).1 b) ]),
  );
}
combined_lists Except InLeft InRight left right set l r is = record {
  ascending = is.ascending;
  members = λ values. (
    λ h. let (a, none) = (is.members values).0 h in ((l.members values).0 a, λ b. none ((r.members values).1 b)),
    λ (a, none). (is.members values).1 ((l.members values).1 a, λ b. none ((r.members values).0 b)),
  );
}
combined_lists Intersect InLeft InRight left right set l r is = record {
  ascending = is.ascending;
  members = λ values. (
    λ h. let (a, b) = (is.members values).0 h in ((l.members values).0 a, (r.members values).0 b),
    λ (a, b). (is.members values).1 ((l.members values).1 a, (r.members values).1 b),
  );
}
