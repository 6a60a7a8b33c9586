-- Plans over the current versions of a table: which versions they end, and what is counted of them.
use Rattle.std.proofs.Common.{◌≡◌, ◌&&◌, ◌∷◌, ◌∙◌, ℕ, Bool, true, false, append-nil, cond, List, [], length, map, refl, sym, ap, subst}
use Rattle.std.specs.List.{filter}
use Rattle.std.specs.List.Sorted.{IsPermutation}
use Rattle.std.proofs.lemmas.List.{length-map}
use Rattle.std.proofs.lemmas.List.Sorted.{IsPermutation-sym, IsPermutation-trans, length_permutation}
use Rattle.sqlite_trees.proofs.ListLemmas.{IsPermutation-filter, filter-map}
use Rattle.period_core.specs.Windows.{window_sees}
use Rattle.period_core.specs.declared.version.VersionRow.{VersionRow}
use Rattle.period_core.specs.declared.window.Window.{Window}
use Rattle.period_core.specs.declared.window.Window.TheVariants.{Now}
use Rattle.catalog_core.specs.declared.change.Action.{Action}
use Rattle.catalog_core.specs.declared.change.Action.TheVariants.{Delete, Insert, Update}
use Rattle.catalog_core.specs.declared.change.InsertedRow.{InsertedRow}
use Rattle.catalog_core.specs.declared.change.Plan.{Plan}
use Rattle.version_store.specs.Contents.{TableVersion, of_table, version_in}
use Rattle.version_store.specs.Scans.{seen_of}
use Rattle.history_model.specs.HistoryVersions.{is_touched, its_row, touched_rows}
use Rattle.history_model.specs.Portions.{added, plain_given, plain_row, touches}
use Rattle.history_model.specs.Versions.{PlainVersion, current, plain_version}
use Rattle.history_model.proofs.HistoryVersionFacts.{from_images, version_same}
use Rattle.portion_dml.specs.Plans.{Plans, version_row}
use Rattle.portion_dml.proofs.Planned.{none_touched}
use Rattle.script_engine.specs.engine.Planned.{count_of, planned_count}

-- ---- versions of a table as version rows

-- a version of a table without its number
abbrev without_table : TableVersion → PlainVersion
without_table v = record { values = v.values; start = v.start; end = v.end; from = v.from; to = v.to }

pub one_version : (table : ℕ) (v w : VersionRow) → version_in table v ≡ version_in table w → v ≡ w
one_version table v w e = version_same v w (ap without_table e)

-- version rows that are, as versions of a table, those that a window sees
pub seen_rows : (table : ℕ) (window : Window) (versions : List TableVersion) (rows seen : List VersionRow) → IsPermutation (of_table table versions) (map (version_in table) rows) → IsPermutation (seen_of table window versions) (map (version_in table) seen) →
    IsPermutation (filter (λ (v : VersionRow). window_sees window v.from v.to) rows) seen
seen_rows table window versions rows seen all are =
    let sees : TableVersion → Bool = λ v. window_sees window v.from v.to in
    let ours : List VersionRow = filter (λ (v : VersionRow). window_sees window v.from v.to) rows in
    let filtered : IsPermutation (seen_of table window versions) (map (version_in table) ours) =
    subst (IsPermutation (seen_of table window versions)) (filter-map sees (version_in table) rows) (IsPermutation-filter sees (of_table table versions) (map (version_in table) rows) all) in
    from_images (version_in table) (one_version table) ours seen
    (IsPermutation-trans (map (version_in table) ours) (seen_of table window versions) (map (version_in table) seen)
    (IsPermutation-sym (seen_of table window versions) (map (version_in table) ours) filtered) are)

-- the rows that are listed as current are the current ones
pub current_listed : (table : ℕ) (versions : List TableVersion) (rows listed : List VersionRow) → IsPermutation (of_table table versions) (map (version_in table) rows) → IsPermutation (seen_of table Now versions) (map (version_in table) listed) →
    IsPermutation (current rows) listed
current_listed table versions rows listed all are = seen_rows table Now versions rows listed all are

-- ---- the versions that end

-- the version is current, and the action touches it
abbrev pub is_hit : Action → VersionRow → Bool
is_hit action v = is_touched action (plain_version v)

-- two filters, one after the other, are one filter by both tests
pub filtered_twice : {X : Type 0} (p q : X → Bool) (xs : List X) → filter q (filter p xs) ≡ filter (λ x. p x && q x) xs
filtered_twice p q [] = refl
filtered_twice {X} p q (x ∷ xs) = go (p x) (filtered_twice p q xs)
  where
    go : (b : Bool) → filter q (filter p xs) ≡ filter (λ x. p x && q x) xs → filter q (cond b (x ∷ filter p xs) (filter p xs)) ≡ cond (b && q x) (x ∷ filter (λ x. p x && q x) xs) (filter (λ x. p x && q x) xs)
    go true e = ap (λ l. cond (q x) (x ∷ l) l) e
    go false e = e

-- the versions that the action touches end
pub hits_end : (action : Action) (rows listed : List VersionRow) (plan : Plan) → IsPermutation (current rows) listed → Plans action listed plan → IsPermutation (filter (is_hit action) rows) plan.ended
hits_end action rows listed plan are plans =
    subst (IsPermutation (filter (is_hit action) rows)) (sym plans.ended)
    (subst (λ l. IsPermutation l (filter (λ (v : VersionRow). touches action (version_row v)) listed)) (filtered_twice (λ (v : VersionRow). window_sees Now v.from v.to) (λ (v : VersionRow). touches action (version_row v)) rows)
    (IsPermutation-filter (λ (v : VersionRow). touches action (version_row v)) (current rows) listed are))

-- ---- the count of an action

touched_count : (action : Action) (rows listed : List VersionRow) (versions : List PlainVersion) (plan : Plan) → IsPermutation (current rows) listed → Plans action listed plan → IsPermutation (map plain_version rows) versions →
    length (touched_rows action versions) ≡ length plan.ended
touched_count action rows listed versions plan are plans left =
    length-map (filter (is_touched action) versions) its_row
    ∙ length_permutation (filter (is_touched action) (map plain_version rows)) (filter (is_touched action) versions) (IsPermutation-filter (is_touched action) (map plain_version rows) versions left)
    ∙ ap length (filter-map (is_touched action) plain_version rows)
    ∙ length-map (filter (is_hit action) rows) plain_version
    ∙ sym (length_permutation (filter (is_hit action) rows) plan.ended (hits_end action rows listed plan are plans))

-- a plan of INSERT adds the rows that it gives
pub rows_given : (given : List InsertedRow) (listed : List VersionRow) (plan : Plan) → Plans (Insert given) listed plan → map plain_row plan.added ≡ map plain_given given
rows_given given listed plan plans =
    let none : plan.ended ≡ [] = plans.ended ∙ none_touched given listed in
    plans.added ∙ ap (λ (l : List VersionRow). added (Insert given) (map version_row l)) none ∙ append-nil (map plain_given given)

given_count : (given : List InsertedRow) (listed : List VersionRow) (plan : Plan) → Plans (Insert given) listed plan → length given ≡ length plan.added
given_count given listed plan plans =
    sym (length-map given plain_given) ∙ ap length (sym (rows_given given listed plan plans)) ∙ length-map plan.added plain_row

pub counted : (action : Action) (rows : List VersionRow) (versions : List PlainVersion) (plan : Plan) (listed : List VersionRow) → IsPermutation (current rows) listed → Plans action listed plan → IsPermutation (map plain_version rows) versions →
    count_of action versions ≡ planned_count action plan
counted (Insert given) rows versions plan listed are plans left = given_count given listed plan plans
counted (Update portion assignments condition) rows versions plan listed are plans left = touched_count (Update portion assignments condition) rows listed versions plan are plans left
counted (Delete portion condition) rows versions plan listed are plans left = touched_count (Delete portion condition) rows listed versions plan are plans left
