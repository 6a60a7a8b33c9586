-- The members of a condition's outermost AND, by the program's tree, and their faults.
use Rattle.std.proofs.Common.{◌≡◌, ◌<◌, ◌≤◌, ◌+◌, ◌++◌, ◌∷◌, ◌∙◌, ℕ, List, [], Option, append_assoc, get_or, length, map, refl, sym, take, take_all, ap}
use Rattle.std.proofs.lemmas.List.{append-nil, map_push, take_more}
use Rattle.std.specs.Global.{Box, Vec}
use Rattle.sql_statements.specs.Plain.{plain_condition}
use Rattle.sql_statements.specs.Trees.{Condition, Conditions, all, any, conditions_of, more, negated, none, test}
use Rattle.sql_statements.specs.declared.tree.Tree as code
use Rattle.catalog_core.proofs.lemmas.conditions.Truth.{and_view, not_view, or_view, test_view}
use Rattle.statement_resolution.proofs.lemmas.conditions.Numbers.{mapped}
use Rattle.statement_resolution.proofs.lemmas.conditions.Parts.{faults_in}
use Rattle.statement_resolution.proofs.lemmas.judged.FaultSums.{among_append, among_end, among_map, either_assoc, either_none}
use Rattle.catalog_core.specs.Conditions.{tests_among, tests_of}
use Rattle.statement_resolution.specs.Faults.{condition_faults, either, faults_among}
use Rattle.statement_resolution.specs.Positions.{map_condition}
use Rattle.statement_resolution.specs.query.Resolving.{Placed, conjunct_parts, list_of, members}
use Rattle.catalog_core.specs.declared.condition.CompareValues.{CompareValues}
use Rattle.sql_statements.specs.declared.statement.Compare.{Compare}
use Rattle.statement_resolution.specs.declared.faults.Faults.{Faults}

module _ {T : Type 0} where
  listed : (parts : List (Condition T)) → list_of (conditions_of parts) ≡ parts
  listed [] = refl
  listed (part ∷ parts) = ap (λ (cs : List (Condition T)). part ∷ cs) (listed parts)

  pub and_members : (first : Box (code.Tree T)) (others : Vec (code.Tree T))
      → members (plain_condition (code.And first others)) ≡ plain_condition first.value ∷ map plain_condition others.items
  and_members first others =
      ap members (and_view first others) ∙ ap (λ (cs : List (Condition T)). plain_condition first.value ∷ cs) (listed (map plain_condition others.items))

  -- an OR of one part is that part
  pub or_alone : (first : Box (code.Tree T)) (others : Vec (code.Tree T)) → others.items ≡ [] → members (plain_condition (code.Or first others)) ≡ members (plain_condition first.value)
  or_alone first others alone =
      ap members (or_view first others)
      ∙ ap (λ (cs : List (code.Tree T)). members (any (more (plain_condition first.value) (conditions_of (map plain_condition cs))))) alone

  -- a condition that is no AND is its own only member
  or_its_own : (first : Condition T) (parts : List (code.Tree T)) → ¬ (length parts ≡ 0)
      → members (any (more first (conditions_of (map plain_condition parts)))) ≡ any (more first (conditions_of (map plain_condition parts))) ∷ []
  or_its_own first [] more_than_one = absurd (more_than_one refl)
  or_its_own first (part ∷ parts) more_than_one = refl

  pub or_member : (first : Box (code.Tree T)) (others : Vec (code.Tree T)) → ¬ (length others.items ≡ 0) → members (plain_condition (code.Or first others)) ≡ plain_condition (code.Or first others) ∷ []
  or_member first others more_than_one =
      ap members (or_view first others) ∙ or_its_own (plain_condition first.value) others.items more_than_one
      ∙ ap (λ (c : Condition T). c ∷ []) (sym (or_view first others))

  pub not_member : (part : Box (code.Tree T)) → members (plain_condition (code.Not part)) ≡ plain_condition (code.Not part) ∷ []
  not_member part = ap members (not_view part) ∙ ap (λ (c : Condition T). c ∷ []) (sym (not_view part))

  pub test_member : (leaf : T) → members (plain_condition (code.Test leaf)) ≡ plain_condition (code.Test leaf) ∷ []
  test_member leaf = ap members (test_view leaf) ∙ ap (λ (c : Condition T). c ∷ []) (sym (test_view leaf))

-- ---- members by positions

module _ (f : Compare → Option CompareValues) where
  pub members_next : (parts : List (code.Tree Compare)) (i : ℕ) (part : code.Tree Compare) (start : List Placed) (before after : List (code.Tree CompareValues)) (numbered : code.Tree CompareValues)
      → i < length parts → part ≡ get_or parts i part → map conjunct_parts before ≡ start ++ map (mapped f) (take i parts) → mapped f part ≡ conjunct_parts numbered
      → after ≡ before ++ numbered ∷ [] → map conjunct_parts after ≡ start ++ map (mapped f) (take (i + 1) parts)
  members_next parts i part start before after numbered here item same this next =
      let more : map (mapped f) (take (i + 1) parts) ≡ map (mapped f) (take i parts) ++ mapped f part ∷ [] =
      ap (map (mapped f)) (take_more parts i part here) ∙ map_push (mapped f) (take i parts) (get_or parts i part)
      ∙ ap (λ (x : code.Tree Compare). map (mapped f) (take i parts) ++ mapped f x ∷ []) (sym item) in
      ap (map conjunct_parts) next ∙ map_push conjunct_parts before numbered
      ∙ ap (λ (cs : List Placed). cs ++ conjunct_parts numbered ∷ []) same
      ∙ ap (λ (p : Placed). (start ++ map (mapped f) (take i parts)) ++ p ∷ []) (sym this)
      ∙ append_assoc start (map (mapped f) (take i parts)) (mapped f part ∷ [])
      ∙ ap (λ (cs : List Placed). start ++ cs) (sym more)

  pub many_members : (q first : code.Tree Compare) (parts : List (code.Tree Compare)) (old begun now : List (code.Tree CompareValues)) (i : ℕ) (numbered : code.Tree CompareValues)
      → members (plain_condition q) ≡ plain_condition first ∷ map plain_condition parts → begun ≡ old ++ numbered ∷ [] → mapped f first ≡ conjunct_parts numbered → length parts ≤ i
      → map conjunct_parts now ≡ map conjunct_parts begun ++ map (mapped f) (take i parts)
      → map conjunct_parts now ≡ map conjunct_parts old ++ map (map_condition f) (members (plain_condition q))
  many_members q first parts old begun now i numbered is start this done so_far =
      let start_parts : map conjunct_parts begun ≡ map conjunct_parts old ++ mapped f first ∷ [] =
      ap (map conjunct_parts) start ∙ map_push conjunct_parts old numbered ∙ ap (λ (p : Placed). map conjunct_parts old ++ p ∷ []) (sym this) in
      let whole : map (map_condition f) (members (plain_condition q)) ≡ mapped f first ∷ map (mapped f) parts =
      ap (map (map_condition f)) is ∙ ap (λ (cs : List Placed). mapped f first ∷ cs) (map_map parts) in
      so_far ∙ ap (λ (cs : List Placed). cs ++ map (mapped f) (take i parts)) start_parts
      ∙ append_assoc (map conjunct_parts old) (mapped f first ∷ []) (map (mapped f) (take i parts))
      ∙ ap (λ (ps : List (code.Tree Compare)). map conjunct_parts old ++ mapped f first ∷ map (mapped f) ps) (take_all i parts done)
      ∙ ap (λ (cs : List Placed). map conjunct_parts old ++ cs) (sym whole)
    where
      map_map : (xs : List (code.Tree Compare)) → map (map_condition f) (map plain_condition xs) ≡ map (mapped f) xs
      map_map [] = refl
      map_map (x ∷ xs) = ap (λ (cs : List Placed). mapped f x ∷ cs) (map_map xs)

-- ---- the faults of the members

module _ {T : Type 0} (f : T → Faults) where
  listed_faults : (parts : Conditions T) → faults_among (condition_faults f) (list_of parts) ≡ faults_among f (tests_among parts)
  listed_faults none = refl
  listed_faults (more part parts) = ap (either (condition_faults f part)) (listed_faults parts) ∙ sym (among_append f (tests_of part) (tests_among parts))

  pub members_faults : (c : Condition T) → faults_among (condition_faults f) (members c) ≡ condition_faults f c
  members_faults (all parts) = listed_faults parts
  members_faults (any none) = refl
  members_faults (any (more part none)) = members_faults part ∙ ap (faults_among f) (sym (append-nil (tests_of part)))
  members_faults (any (more part (more next parts))) = either_none (condition_faults f (any (more part (more next parts))))
  members_faults (negated part) = either_none (condition_faults f (negated part))
  members_faults (test leaf) = either_none (condition_faults f (test leaf))

  pub many_faults : (q first : code.Tree T) (parts : List (code.Tree T)) (i : ℕ) (old begun now : Faults)
      → members (plain_condition q) ≡ plain_condition first ∷ map plain_condition parts → begun ≡ either old (faults_in f first) → length parts ≤ i
      → now ≡ either begun (faults_among (faults_in f) (take i parts)) → now ≡ either old (faults_in f q)
  many_faults q first parts i old begun now is start done so_far =
      let sum : Faults = faults_among (faults_in f) parts in
      so_far ∙ ap (λ (g : Faults). either g (faults_among (faults_in f) (take i parts))) start
      ∙ ap (either (either old (faults_in f first))) (among_end (faults_in f) parts parts i done refl)
      ∙ either_assoc old (faults_in f first) sum
      ∙ ap (either old)
      (ap (either (faults_in f first)) (sym (among_map (condition_faults f) plain_condition parts))
      ∙ ap (faults_among (condition_faults f)) (sym is)
      ∙ members_faults (plain_condition q))
