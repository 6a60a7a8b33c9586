-- The report of a store that is verified.
use Rattle.std.proofs.Common.{◌≡◌, ◌⊎◌, ◌∙◌, ◌+◌, ◌++◌, ◌∷◌, ℕ, ℤ, List, [], add-one, ap, append_assoc, inl, inr, length, map, refl, subst, sym}
use Rattle.std.specs.Prelude.{flat_map}
use Rattle.std.specs.List.{zip}
use Rattle.std.specs.List.Sorted.{IsPermutation}
use Rattle.std.proofs.lemmas.List.{append-nil}
use Rattle.std.proofs.lemmas.List.Sorted.{IsPermutation-map, IsPermutation-sym, IsPermutation-trans, length_permutation}
use Rattle.sqlite.specs.Store.{Ghosts}
use Rattle.period_core.specs.declared.version.VersionRow.{VersionRow}
use Rattle.catalog_core.specs.declared.table.TableDef.{TableDef}
use Rattle.history_model.specs.Histories.{History, catalog_of, clock_of}
use Rattle.history_model.specs.HistoryVersions.{versions_of}
use Rattle.history_model.specs.Versions.{PlainVersion, plain_version}
use Rattle.version_store.specs.Contents.{AreRowsOf, TableVersion, of_table, version_in}
use Rattle.history_sums.specs.Sums.{definitions_bytes, number_bytes, sum_of, sum_text, tables_bytes, up_to, versions_bytes}
use Rattle.history_sums.proofs.SumFacts.{alike, up_to-alike, versions-alike}
use Rattle.script_engine.specs.engine.EngineState.{EngineState}
use Rattle.script_engine.specs.engine.Stored.{EngineRepresents}
use Rattle.bitemporal_file.specs.Listing.{version_count}
use Rattle.bitemporal_file.specs.Verification.{AlikeAreVerifiedAlike, sum_line, verification_of, verified_line, verified_lines, version_counts}

-- a version of a table without the table's number
abbrev plain_of : TableVersion → PlainVersion
plain_of v = record { values = v.values; start = v.start; end = v.end; from = v.from; to = v.to }

plain_rows : (table : ℕ) (rows : List VersionRow) → map plain_of (map (version_in table) rows) ≡ map plain_version rows
plain_rows table [] = refl
plain_rows table (row ∷ rows) = ap (λ vs. plain_version row ∷ vs) (plain_rows table rows)

-- the rows of a table of the contents are, in whatever order, the versions that the history leaves of it
rows-left : {S : Type 0} (g : Ghosts S) (history : History) (engine : EngineState S) (stands : EngineRepresents g history engine) (table : ℕ) (rows : List VersionRow) → AreRowsOf stands.contents table rows
    → IsPermutation (map plain_version rows) (versions_of history table)
rows-left g history engine stands table rows are =
    let held = stands.said.versions table in
    let versions = of_table table stands.contents.versions in
    let both = IsPermutation-trans (map (version_in table) rows) versions (map (version_in table) held.rows) (IsPermutation-sym versions (map (version_in table) rows) are.all) held.all in
    let plain = IsPermutation-map plain_of (map (version_in table) rows) (map (version_in table) held.rows) both in
    let here : IsPermutation (map plain_version rows) (map plain_version held.rows) = rw (plain_rows table rows, plain_rows table held.rows) at plain in
    IsPermutation-trans (map plain_version rows) (map plain_version held.rows) (versions_of history table) here held.left

-- the rows of a table spell what the history's versions spell
pub rows-spelled : {S : Type 0} (g : Ghosts S) (history : History) (engine : EngineState S) (stands : EngineRepresents g history engine) (table : ℕ) (rows : List VersionRow) → AreRowsOf stands.contents table rows
    → versions_bytes (map plain_version rows) ≡ versions_bytes (versions_of history table)
rows-spelled g history engine stands table rows are = versions-alike (map plain_version rows) (versions_of history table) (rows-left g history engine stands table rows are)

-- a list made of the numbers up to n, with one more
pub up_to-more : {X : Type 0} (make : ℕ → List X) (n : ℕ) → up_to make n ++ make (n + 1) ≡ up_to make (n + 1)
up_to-more make n = subst (λ m. up_to make n ++ make m ≡ up_to make m) (sym (add-one n)) refl

-- the rows of the tables so far, with one table's more
pub tables-more : {S : Type 0} (g : Ghosts S) (history : History) (engine : EngineState S) (stands : EngineRepresents g history engine) (i : ℕ) (rows : List VersionRow) (bytes : List ℕ) → AreRowsOf stands.contents (i + 1) rows
    → (bytes ++ tables_bytes history i) ++ versions_bytes (map plain_version rows) ≡ bytes ++ tables_bytes history (i + 1)
tables-more g history engine stands i rows bytes are =
    append_assoc bytes (tables_bytes history i) (versions_bytes (map plain_version rows))
    ∙ ap (λ spelled. bytes ++ (tables_bytes history i ++ spelled)) (rows-spelled g history engine stands (i + 1) rows are)
    ∙ ap (λ spelled. bytes ++ spelled) (up_to-more (λ table. versions_bytes (versions_of history table)) i)

-- the counts of the tables so far, with one table's more
pub counts-more : (history : History) (i count : ℕ) (counts new : List ℕ) → counts ≡ version_counts history i → new ≡ counts ++ count ∷ [] → count ≡ version_count history (i + 1) → new ≡ version_counts history (i + 1)
counts-more history i count counts new so_far pushed is =
    pushed
    ∙ ap (λ ns. ns ++ count ∷ []) so_far
    ∙ ap (λ n. version_counts history i ++ n ∷ []) is
    ∙ up_to-more (λ table. version_count history table ∷ []) i

-- no table or no count is left
pub lines-end : (tables : List TableDef) (counts text whole : List ℕ) → (tables ≡ []) ⊎ (counts ≡ []) → text ++ flat_map verified_line (zip tables counts) ≡ whole → text ≡ whole
lines-end tables counts text whole none so_far = sym (append-nil text) ∙ ap (λ pairs. text ++ flat_map verified_line pairs) (sym (no_pairs tables counts none)) ∙ so_far
  where
    no_pairs : (tables : List TableDef) (counts : List ℕ) → (tables ≡ []) ⊎ (counts ≡ []) → zip tables counts ≡ []
    no_pairs [] counts none = refl
    no_pairs (table ∷ tables) [] none = refl
    no_pairs (table ∷ tables) (count ∷ counts) (inl is) = let no : ⊥ = cc in absurd no
    no_pairs (table ∷ tables) (count ∷ counts) (inr is) = let no : ⊥ = cc in absurd no

-- the counts and the sum, put together, are the report
pub verified-of : (history : History) (clock : ℤ) (defined tables : List TableDef) (counts digits empty lines text : List ℕ) → clock ≡ clock_of history → defined ≡ catalog_of history → tables ≡ catalog_of history →
    counts ≡ version_counts history (length (catalog_of history)) →
    digits ≡ sum_text ((number_bytes clock ++ definitions_bytes defined) ++ tables_bytes history (length (catalog_of history))) →
    empty ≡ [] → lines ≡ empty ++ verified_lines tables counts → text ≡ lines ++ sum_line digits → text ≡ verification_of history
verified-of history clock defined tables counts digits empty lines text clock_is defined_are tables_are counts_are digits_are empty_is lines_are text_is =
    let spelled : digits ≡ sum_of history =
    digits_are
    ∙ ap (λ n. sum_text ((number_bytes n ++ definitions_bytes defined) ++ tables_bytes history (length (catalog_of history)))) clock_is
    ∙ ap (λ (ts : List TableDef). sum_text ((number_bytes (clock_of history) ++ definitions_bytes ts) ++ tables_bytes history (length (catalog_of history)))) defined_are
    ∙ ap sum_text (append_assoc (number_bytes (clock_of history)) (definitions_bytes (catalog_of history)) (tables_bytes history (length (catalog_of history)))) in
    text_is
    ∙ ap (λ l. l ++ sum_line digits) (lines_are ∙ ap (λ e. e ++ verified_lines tables counts) empty_is)
    ∙ ap (λ (ts : List TableDef). verified_lines ts counts ++ sum_line digits) tables_are
    ∙ ap (λ (cs : List ℕ). verified_lines (catalog_of history) cs ++ sum_line digits) counts_are
    ∙ ap (λ (d : List ℕ). verified_lines (catalog_of history) (version_counts history (length (catalog_of history))) ++ sum_line d) spelled

-- histories that are alike are verified alike
pub verified_alike : AlikeAreVerifiedAlike
verified_alike one other are =
    let count : (table : ℕ) → version_count one table ≡ version_count other table = λ table. sym (length_permutation (versions_of one table) (versions_of other table) (are.versions table)) in
    let counts : version_counts one (length (catalog_of one)) ≡ version_counts other (length (catalog_of one)) =
    up_to-alike (λ table. version_count one table ∷ []) (λ table. version_count other table ∷ []) (λ table. ap (λ n. n ∷ []) (count table)) (length (catalog_of one)) in
    ap (λ cs. verified_lines (catalog_of one) cs ++ sum_line (sum_of one)) counts
    ∙ ap (λ (ts : List TableDef). verified_lines ts (version_counts other (length ts)) ++ sum_line (sum_of one)) are.tables
    ∙ ap (λ sum. verified_lines (catalog_of other) (version_counts other (length (catalog_of other))) ++ sum_line sum) (alike one other are)
