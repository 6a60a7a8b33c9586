-- The faults of the conditions of a select, in loops over joins and chains.
use Rattle.std.proofs.Common.{◌≡◌, ◌<◌, ◌≤◌, ◌+◌, ◌++◌, ◌∷◌, ◌∙◌, ℕ, List, [], None, Some, append_assoc, ◌-◌, arith, drop, get_or, length, length-append, map, refl, sym, take, take_all, ap}
use Rattle.std.proofs.Math.Seq.{drop-append_seam, take-append_seam}
use Rattle.std.proofs.lemmas.List.{append-nil, map_push, take_more}
use Rattle.std.proofs.lemmas.Grind.{flat_map-append}
use Rattle.sql_statements.specs.Plain.{plain_chain, plain_condition, plain_join}
use Rattle.sql_statements.specs.Trees as written
use Rattle.sql_statements.specs.Trees.{Condition}
use Rattle.sql_statements.specs.declared.statement.Compare.{Compare}
use Rattle.sql_statements.specs.declared.statement.Join.{Join}
use Rattle.sql_statements.specs.declared.statement.JoinChain.{JoinChain}
use Rattle.sql_statements.specs.declared.statement.SelectItem.{SelectItem}
use Rattle.sql_statements.specs.declared.statement.TableReference.{TableReference}
use Rattle.statement_resolution.proofs.lemmas.judged.FaultSums.{among_append, among_push, either_assoc, either_none, or_none}
use Rattle.statement_resolution.proofs.lemmas.query.ReferenceLists.{front_tables, front_tables_more, join_tables, join_tables_more}
use Rattle.statement_resolution.specs.Faults.{either, faults_among, no_faults}
use Rattle.statement_resolution.specs.query.Faults.{condition_faults, item_faults, known_twice, lacks_any, missing_fault, query_faults, reference_faults, scoped_faults, select_faults}
use Rattle.catalog_core.specs.table.TableWords.{table_of_name}
use Rattle.statement_resolution.specs.query.Scopes.{ScopedCondition, declared_columns, SeenColumn, chain_conditions, chain_tables, conditions_in, on_conditions, seen_columns, tables_of, where_conditions, whole_scope}
use Rattle.catalog_core.specs.table.Naming.{known_name}
use Rattle.statement_resolution.specs.declared.faults.Faults.{Faults}
use Rattle.catalog_core.specs.declared.table.TableDef.{TableDef}

-- ---- joins

-- the scope of the condition of one more join
abbrev pub joined_scope : List TableReference → List TableReference → List written.Join → written.Join → ScopedCondition
joined_scope before seen joins j = (record { before = before; seen = (seen ++ map (λ (x : written.Join). x.reference) joins) ++ j.reference ∷ [] }, j.condition)

pub conditions_push : (before seen : List TableReference) (joins : List written.Join) (j : written.Join)
    → chain_conditions before seen (joins ++ j ∷ []) ≡ chain_conditions before seen joins ++ joined_scope before seen joins j ∷ []
conditions_push before seen [] j =
    ap (λ (rs : List TableReference). let c : ScopedCondition = (record { before = before; seen = rs ++ j.reference ∷ [] }, j.condition) in c ∷ []) (sym (append-nil seen))
conditions_push before seen (x ∷ joins) j =
    let here : ScopedCondition = (record { before = before; seen = seen ++ x.reference ∷ [] }, x.condition) in
    let at : List TableReference → ScopedCondition = λ rs. (record { before = before; seen = rs ++ j.reference ∷ [] }, j.condition) in
    let now : List TableReference = seen ++ x.reference ∷ [] in
    ap (λ (cs : List ScopedCondition). here ∷ cs) (conditions_push before now joins j
    ∙ ap (λ (rs : List TableReference). chain_conditions before now joins ++ at rs ∷ []) (append_assoc seen (x.reference ∷ []) (map (λ (y : written.Join). y.reference) joins)))

module _ (catalog : List TableDef) where
  -- the tables before a chain change no fault
  pub before_any : (before other seen : List TableReference) (joins : List written.Join)
      → faults_among (scoped_faults catalog) (chain_conditions before seen joins) ≡ faults_among (scoped_faults catalog) (chain_conditions other seen joins)
  before_any before other seen [] = refl
  before_any before other seen (j ∷ joins) =
      ap (either (condition_faults (seen_columns catalog (seen ++ j.reference ∷ [])) j.condition)) (before_any before other (seen ++ j.reference ∷ []) joins)

  -- of the first joins of a chain
  abbrev pub join_faults : TableReference → List Join → Faults
  join_faults first joins = faults_among (scoped_faults catalog) (chain_conditions [] (first ∷ []) (map plain_join joins))

  -- one more join, after other faults
  pub join_faults_more : (old : Faults) (first : TableReference) (joins : List Join) (i : ℕ) (j : Join) (columns : List SeenColumn) (before after : Faults)
      → i < length joins → j ≡ get_or joins i j → before ≡ either old (join_faults first (take i joins))
      → columns ≡ seen_columns catalog (first ∷ join_tables (take (i + 1) joins)) → after ≡ either before (condition_faults columns (plain_condition j.condition))
      → after ≡ either old (join_faults first (take (i + 1) joins))
  join_faults_more old first joins i j columns before after here item same seen next =
      let f : ScopedCondition → Faults = scoped_faults catalog in
      let front : List written.Join = map plain_join (take i joins) in
      let found : Faults = condition_faults columns (plain_condition j.condition) in
      let this_one : found ≡ f (joined_scope [] (first ∷ []) front (plain_join j)) =
      ap (λ (cs : List SeenColumn). condition_faults cs (plain_condition j.condition)) (seen ∙ ap (λ (rs : List TableReference). seen_columns catalog (first ∷ rs)) (join_tables_more joins i j here item)) in
      next ∙ ap (λ b. either b found) same ∙ either_assoc old (join_faults first (take i joins)) found
      ∙ ap (either old)
      (ap (either (join_faults first (take i joins))) this_one
      ∙ sym (among_push f (chain_conditions [] (first ∷ []) front) (joined_scope [] (first ∷ []) front (plain_join j)))
      ∙ ap (faults_among f) (sym (conditions_push [] (first ∷ []) front (plain_join j)))
      ∙ ap (λ (js : List written.Join). faults_among f (chain_conditions [] (first ∷ []) js)) (sym (map_push plain_join (take i joins) j))
      ∙ ap (λ (x : Join). join_faults first (take i joins ++ x ∷ [])) item
      ∙ ap (join_faults first) (sym (take_more joins i j here)))

  -- ---- chains

  -- of a chain
  abbrev pub faults_on : written.JoinChain → Faults
  faults_on chain = faults_among (scoped_faults catalog) (chain_conditions [] (chain.first ∷ []) chain.joins)

  pub on_faults : (before : List TableReference) (chains : List written.JoinChain) → faults_among (scoped_faults catalog) (on_conditions before chains) ≡ faults_among faults_on chains
  on_faults before [] = refl
  on_faults before (chain ∷ chains) =
      among_append (scoped_faults catalog) (chain_conditions before (chain.first ∷ []) chain.joins) (on_conditions (before ++ chain_tables chain) chains)
      ∙ ap (λ f. either f (faults_among (scoped_faults catalog) (on_conditions (before ++ chain_tables chain) chains))) (before_any before [] (chain.first ∷ []) chain.joins)
      ∙ ap (either (faults_on chain)) (on_faults (before ++ chain_tables chain) chains)

  -- ---- the columns of one more table, and of one more chain

  pub seen_append : (rs others : List TableReference) → seen_columns catalog (rs ++ others) ≡ seen_columns catalog rs ++ seen_columns catalog others
  seen_append rs others = flat_map-append _ rs others

  pub seen_one : (r : TableReference) → seen_columns catalog (r ∷ []) ≡ declared_columns (known_name r) (table_of_name catalog r.table)
  seen_one r = append-nil (declared_columns (known_name r) (table_of_name catalog r.table))

  pub seen_first : (r : TableReference) (old after : List SeenColumn) → after ≡ old ++ declared_columns (known_name r) (table_of_name catalog r.table)
      → after ≡ old ++ seen_columns catalog (r ∷ [])
  seen_first r old after next = next ∙ ap (λ (cs : List SeenColumn). old ++ cs) (sym (seen_one r))

  pub seen_step : (first : TableReference) (joins : List Join) (i : ℕ) (j : Join) (old before after : List SeenColumn) → i < length joins → j ≡ get_or joins i j
      → before ≡ old ++ seen_columns catalog (first ∷ join_tables (take i joins))
      → after ≡ before ++ declared_columns (known_name j.reference) (table_of_name catalog j.reference.table)
      → after ≡ old ++ seen_columns catalog (first ∷ join_tables (take (i + 1) joins))
  seen_step first joins i j old before after here item same next =
      let front : List TableReference = first ∷ join_tables (take i joins) in
      seen_first j.reference before after next
      ∙ ap (λ (cs : List SeenColumn). cs ++ seen_columns catalog (j.reference ∷ [])) same
      ∙ append_assoc old (seen_columns catalog front) (seen_columns catalog (j.reference ∷ []))
      ∙ ap (λ (cs : List SeenColumn). old ++ cs) (sym (seen_append front (j.reference ∷ [])))
      ∙ ap (λ (rs : List TableReference). old ++ seen_columns catalog (first ∷ rs)) (sym (join_tables_more joins i j here item))

  pub front_step : (chains : List JoinChain) (i : ℕ) (c : JoinChain) (before after : List SeenColumn) → i < length chains → c ≡ get_or chains i c
      → before ≡ seen_columns catalog (front_tables chains i) → after ≡ before ++ seen_columns catalog (chain_tables (plain_chain c))
      → after ≡ seen_columns catalog (front_tables chains (i + 1))
  front_step chains i c before after here item same next =
      next ∙ ap (λ (cs : List SeenColumn). cs ++ seen_columns catalog (chain_tables (plain_chain c))) same
      ∙ sym (seen_append (front_tables chains i) (chain_tables (plain_chain c)))
      ∙ ap (seen_columns catalog) (sym (front_tables_more chains i c here item))

-- the columns after the earlier ones
pub behind : (old whole seen : List SeenColumn) (start : ℕ) → start ≡ length old → whole ≡ old ++ seen → take (length whole - start) (drop start whole) ≡ seen
behind old whole seen start at same =
    let rest : drop start whole ≡ seen = ap (λ n. drop n whole) at ∙ ap (drop (length old)) same ∙ drop-append_seam old seen in
    let count : length seen ≤ length whole - start = rw (same, at) (simp length-append (omega arith)) in
    ap (take (length whole - start)) rest ∙ take_all (length whole - start) seen count

-- the first columns of a list are the ones before those of the last tables
pub in_front : (old whole seen : List SeenColumn) (start : ℕ) → start ≡ length old → whole ≡ old ++ seen → take start whole ≡ old
in_front old whole seen start at same = ap (λ n. take n whole) at ∙ ap (take (length old)) same ∙ take-append_seam old seen

-- ---- the whole of a select

module _ (catalog : List TableDef) (s : written.Select) where
  -- the condition of WHERE, after those of ON
  pub where_sum : (condition : Condition Compare) (columns : List SeenColumn) (old now after : Faults) → s.condition ≡ Some condition
      → now ≡ either old (faults_among (faults_on catalog) s.chains) → columns ≡ seen_columns catalog (tables_of s)
      → after ≡ either now (condition_faults columns condition) → after ≡ either old (faults_among (scoped_faults catalog) (conditions_in s))
  where_sum condition columns old now after is so_far seen next =
      let f : ScopedCondition → Faults = scoped_faults catalog in
      let this : ScopedCondition = (whole_scope s, condition) in
      let on : Faults = faults_among f (on_conditions [] s.chains) in
      next ∙ ap (λ (cs : List SeenColumn). either now (condition_faults cs condition)) seen
      ∙ ap (λ (g : Faults). either g (f this)) (so_far ∙ ap (either old) (sym (on_faults catalog [] s.chains)))
      ∙ either_assoc old on (f this)
      ∙ ap (either old) (sym (among_push f (on_conditions [] s.chains) this))
      ∙ ap (λ o. either old (faults_among f (on_conditions [] s.chains ++ where_conditions (whole_scope s) o))) (sym is)

  pub no_where_sum : (old now : Faults) → s.condition ≡ None → now ≡ either old (faults_among (faults_on catalog) s.chains)
      → now ≡ either old (faults_among (scoped_faults catalog) (conditions_in s))
  no_where_sum old now is so_far =
      let f : ScopedCondition → Faults = scoped_faults catalog in
      so_far ∙ ap (either old) (sym (on_faults catalog [] s.chains))
      ∙ ap (λ (cs : List ScopedCondition). either old (faults_among f cs)) (sym (append-nil (on_conditions [] s.chains)))
      ∙ ap (λ o. either old (faults_among f (on_conditions [] s.chains ++ where_conditions (whole_scope s) o))) (sym is)

  -- the names of the tables, then the tables, the conditions and the items
  pub select_sum : (old none begun placed judged whole : Faults) (columns : List SeenColumn) (items : List SelectItem) → none ≡ no_faults → begun ≡ either old (record none { twice = known_twice (tables_of s) })
      → placed ≡ either begun (missing_fault (lacks_any catalog (tables_of s))) → judged ≡ either placed (faults_among (scoped_faults catalog) (conditions_in s))
      → columns ≡ seen_columns catalog (tables_of s) → items ≡ s.items → whole ≡ either judged (faults_among (item_faults columns) items) → whole ≡ either old (query_faults catalog (written.simple s))
  unfolding select_faults
  select_sum old none begun placed judged whole columns items clean of_begun of_placed of_judged seen same of_whole =
      let conditions : Faults = faults_among (scoped_faults catalog) (conditions_in s) in
      let named : Faults = faults_among (item_faults (seen_columns catalog (tables_of s))) s.items in
      let twice : Faults = record no_faults { twice = known_twice (tables_of s) } in
      let missing : Faults = missing_fault (lacks_any catalog (tables_of s)) in
      let first : Faults = reference_faults catalog (tables_of s) in
      let all : Faults = either first (either conditions named) in
      let both : either twice missing ≡ first = rw (or_none (known_twice (tables_of s))) refl in
      let tables : placed ≡ either old first =
      of_placed ∙ ap (λ (g : Faults). either g missing) (of_begun ∙ ap (λ (g : Faults). either old (record g { twice = known_twice (tables_of s) })) clean)
      ∙ either_assoc old twice missing ∙ ap (either old) both in
      of_whole ∙ ap (λ (cs : List SeenColumn). either judged (faults_among (item_faults cs) items)) seen
      ∙ ap (λ (xs : List SelectItem). either judged (faults_among (item_faults (seen_columns catalog (tables_of s))) xs)) same
      ∙ ap (λ (g : Faults). either g named) (of_judged ∙ ap (λ (g : Faults). either g conditions) tables)
      ∙ either_assoc (either old first) conditions named ∙ either_assoc old first (either conditions named)
      ∙ ap (either old) (sym (either_none all) ∙ sym (either_none (either all no_faults)))
