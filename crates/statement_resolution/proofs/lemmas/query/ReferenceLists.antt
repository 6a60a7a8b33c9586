-- The table references of a select, in a loop over its chains and their joins.
use Rattle.std.proofs.Common.{◌≡◌, ◌<◌, ◌+◌, ◌++◌, ◌∷◌, ◌||◌, ◌∙◌, ℕ, suc, Bool, true, false, List, [], Bor, append_assoc, arith, bytes_eq, cond, count_by, filter, flat_map, get_or, take, length, map, refl, sym, ap}
use Rattle.std.specs.List.{list_any}
use Rattle.std.proofs.lemmas.List.{append-nil, map_push, take_more}
use Rattle.std.proofs.lemmas.List.Folds.{list_any_more}
use Rattle.std.proofs.lemmas.List.Sums.{length-filter}
use Rattle.std.proofs.lemmas.Grind.{flat_map-append}
use Rattle.sql_statements.specs.Plain.{plain_chain, plain_join}
use Rattle.sql_statements.specs.Trees as written
use Rattle.sql_statements.specs.declared.statement.Join.{Join}
use Rattle.sql_statements.specs.declared.statement.JoinChain.{JoinChain}
use Rattle.sql_statements.specs.declared.statement.TableReference.{TableReference}
use Rattle.catalog_core.proofs.lemmas.lists.AnyTests.{any_same}
use Rattle.statement_resolution.specs.query.Faults.{known_twice}
use Rattle.statement_resolution.specs.query.Scopes.{chain_tables}
use Rattle.catalog_core.specs.table.Naming.{known_name}
use Rattle.catalog_core.specs.table.Matches.{is_matching}
use Rattle.catalog_core.specs.table.Naming.{Name, matches_among, repeats}
use Rattle.catalog_core.specs.declared.table.match_counts.MatchCount.TheVariants.{Many}

-- the tables of chains, and of the first of them
abbrev pub tables_in : List JoinChain → List TableReference
tables_in chains = flat_map chain_tables (map plain_chain chains)

abbrev pub front_tables : List JoinChain → ℕ → List TableReference
front_tables chains i = tables_in (take i chains)

-- the tables of the first joins of a chain
abbrev pub join_tables : List Join → List TableReference
join_tables joins = map (λ (j : written.Join). j.reference) (map plain_join joins)

pub join_tables_more : (joins : List Join) (i : ℕ) (j : Join) → i < length joins → j ≡ get_or joins i j
    → join_tables (take (i + 1) joins) ≡ join_tables (take i joins) ++ j.reference ∷ []
join_tables_more joins i j here item =
    ap join_tables (take_more joins i j here)
    ∙ ap (λ (x : Join). join_tables (take i joins ++ x ∷ [])) (sym item)
    ∙ ap (map (λ (x : written.Join). x.reference)) (map_push plain_join (take i joins) j)
    ∙ map_push (λ (x : written.Join). x.reference) (map plain_join (take i joins)) (plain_join j)

pub tables_step : (joins : List Join) (i : ℕ) (j : Join) (old before after : List TableReference) (first : TableReference) → i < length joins → j ≡ get_or joins i j
    → before ≡ old ++ first ∷ join_tables (take i joins) → after ≡ before ++ j.reference ∷ [] → after ≡ old ++ first ∷ join_tables (take (i + 1) joins)
tables_step joins i j old before after first here item same next =
    next ∙ ap (λ (rs : List TableReference). rs ++ j.reference ∷ []) same
    ∙ append_assoc old (first ∷ join_tables (take i joins)) (j.reference ∷ [])
    ∙ ap (λ (rs : List TableReference). old ++ first ∷ rs) (sym (join_tables_more joins i j here item))

pub front_tables_more : (chains : List JoinChain) (i : ℕ) (c : JoinChain) → i < length chains → c ≡ get_or chains i c
    → front_tables chains (i + 1) ≡ front_tables chains i ++ chain_tables (plain_chain c)
front_tables_more chains i c here item =
    ap (λ (cs : List JoinChain). flat_map chain_tables (map plain_chain cs)) (take_more chains i c here)
    ∙ ap (λ (x : JoinChain). flat_map chain_tables (map plain_chain (take i chains ++ x ∷ []))) (sym item)
    ∙ ap (flat_map chain_tables) (map_push plain_chain (take i chains) c)
    ∙ flat_map-append chain_tables (map plain_chain (take i chains)) (plain_chain c ∷ [])
    ∙ ap (λ (rs : List TableReference). front_tables chains i ++ rs) (append-nil (chain_tables (plain_chain c)))

-- ---- known by one name

length_cond : {X Y : Type 0} (b : Bool) (x : X) (xs : List X) (y : Y) (ys : List Y) → length xs ≡ length ys → length (cond b (x ∷ xs) xs) ≡ length (cond b (y ∷ ys) ys)
length_cond true x xs y ys same = ap suc same
length_cond false x xs y ys same = same

kept_map : {X Y : Type 0} (p : Y → Bool) (f : X → Y) (xs : List X) → length (filter p (map f xs)) ≡ length (filter (λ x. p (f x)) xs)
kept_map p f [] = refl
kept_map p f (x ∷ xs) = length_cond (p (f x)) (f x) (filter p (map f xs)) x (filter (λ y. p (f y)) xs) (kept_map p f xs)

count_map : {X Y : Type 0} (p : Y → Bool) (f : X → Y) (xs : List X) → count_by p (map f xs) ≡ count_by (λ x. p (f x)) xs
count_map p f xs = sym (length-filter p (map f xs)) ∙ kept_map p f xs ∙ length-filter (λ x. p (f x)) xs

pub any_map : {X Y : Type 0} (p : Y → Bool) (f : X → Y) (xs : List X) → list_any p (map f xs) ≡ list_any (λ x. p (f x)) xs
any_map p f [] = refl
any_map p f (x ∷ xs) = ap (λ b. p (f x) || b) (any_map p f xs)

-- a table reference that is borrowed
abbrev pub Borrowed : Type 0
Borrowed = Bor TableReference

abbrev pub known_to : List Borrowed → Borrowed → Bool
known_to rs r = is_matching Many (matches_among (λ (x : Borrowed). known_name x.now) rs (known_name r.now))

counted : (rs : List Borrowed) (name : Name)
    → matches_among (λ (x : Name). x) (map known_name (map (λ (r : Borrowed). r.now) rs)) name ≡ matches_among (λ (x : Borrowed). known_name x.now) rs name
unfolding matches_among
counted rs name =
    count_map (bytes_eq name) known_name (map (λ (r : Borrowed). r.now) rs)
    ∙ count_map (λ (r : TableReference). bytes_eq name (known_name r)) (λ (r : Borrowed). r.now) rs

-- some name of the references is known to another, by the references in hand
pub twice_by : (rs : List Borrowed) → known_twice (map (λ (r : Borrowed). r.now) rs) ≡ list_any (known_to rs) rs
unfolding repeats
twice_by rs =
    let names : List Name = map known_name (map (λ (r : Borrowed). r.now) rs) in
    let among : Name → Bool = λ name. is_matching Many (matches_among (λ (x : Name). x) names name) in
    let by : Name → Bool = λ name. is_matching Many (matches_among (λ (x : Borrowed). known_name x.now) rs name) in
    any_same among by (λ name. ap (is_matching Many) (counted rs name)) names
    ∙ any_map by known_name (map (λ (r : Borrowed). r.now) rs)
    ∙ any_map (λ (r : TableReference). by (known_name r)) (λ (r : Borrowed). r.now) rs

-- ---- lists

-- one more element fails a test that no earlier one passes
pub any_next : {X : Type 0} (p : X → Bool) (xs : List X) (i : ℕ) (x : X) → i < length xs → x ≡ get_or xs i x → list_any p (take i xs) ≡ false → p x ≡ false → list_any p (take (i + 1) xs) ≡ false
any_next p xs i x here item none failing =
    let at : p (get_or xs i x) ≡ false = ap p (sym item) ∙ failing in
    rw (list_any_more p xs i x here, none, at) refl

pub map_both : {X Y Z : Type 0} (f : Y → Z) (g : X → Y) (xs : List X) → map f (map g xs) ≡ map (λ x. f (g x)) xs
map_both f g [] = refl
map_both f g (x ∷ xs) = ap (λ zs. f (g x) ∷ zs) (map_both f g xs)

-- chains name at least one table
pub borrowed_filled : (rs : List Borrowed) (chains : List JoinChain) → map (λ (r : Borrowed). r.now) rs ≡ tables_in chains → 0 < length chains → 0 < length rs
borrowed_filled rs [] same filled = absurd (omega (arith, filled))
borrowed_filled [] (c ∷ chains) same filled = cc
borrowed_filled (r ∷ rs) (c ∷ chains) same filled = omega arith
