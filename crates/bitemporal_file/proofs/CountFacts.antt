-- The number of versions of each table of an engine.
use Rattle.std.proofs.Common.{◌≡◌, ◌+◌, ◌-◌, ◌<◌, ◌++◌, ◌∷◌, ◌∙◌, ℕ, ℤ, List, [], add-zero, ap, arith, below_more, get_or, length, map, refl, subst, sym}
use Rattle.std.proofs.Math.ListN.{get_or-append}
use Rattle.std.proofs.Math.Seq.{get_or-append_seam}
use Rattle.std.proofs.lemmas.List.{length-map}
use Rattle.std.proofs.lemmas.List.Sorted.{length_permutation}
use Rattle.period_core.specs.declared.version.VersionRow.{VersionRow}
use Rattle.sqlite.specs.Store.{Ghosts}
use Rattle.catalog_core.specs.declared.table.TableDef.{TableDef}
use Rattle.catalog_core.specs.declared.table.catalog.Catalog.{Catalog}
use Rattle.history_model.specs.Histories.{History, catalog_of, clock_of}
use Rattle.history_model.specs.HistoryVersions.{versions_of}
use Rattle.history_model.specs.Versions.{plain_version}
use Rattle.version_store.specs.Contents.{AreRowsOf, of_table, version_in}
use Rattle.script_engine.specs.engine.EngineState.{EngineState}
use Rattle.script_engine.specs.engine.Stored.{EngineRepresents}
use Rattle.bitemporal_file.specs.Listing.{AreCountsOf, clock_line, listing_of, table_lines, tables_lines, version_count}

-- the rows of a table of the contents are as many as the versions that the history leaves of it
pub row-count : {S : Type 0} (g : Ghosts S) (history : History) (engine : EngineState S) (stands : EngineRepresents g history engine) (table : ℕ) (rows : List VersionRow) → AreRowsOf stands.contents table rows → length rows ≡ version_count history table
row-count g history engine stands table rows are =
    let held = stands.said.versions table in
    let mine = length_permutation (of_table table stands.contents.versions) (map (version_in table) rows) are.all in
    let its = length_permutation (of_table table stands.contents.versions) (map (version_in table) held.rows) held.all in
    let plain = length_permutation (map plain_version held.rows) (versions_of history table) held.left in
    sym (length-map rows (version_in table)) ∙ mine ∙ sym its ∙ length-map held.rows (version_in table) ∙ sym (length-map held.rows plain_version) ∙ sym plain

-- the counts of the tables so far, with one table's more
pub count-more : (history : History) (counts : List ℕ) (i count : ℕ) → length counts ≡ i → ((place : ℕ) → place < i → get_or counts place 0 ≡ version_count history (place + 1)) → count ≡ version_count history (i + 1) →
    (place : ℕ) → place < i + 1 → get_or (counts ++ count ∷ []) place 0 ≡ version_count history (place + 1)
count-more history counts i count size so_far is =
    let P : ℕ → Type 0 = λ place. get_or (counts ++ count ∷ []) place 0 ≡ version_count history (place + 1) in
    below_more P i
    (λ place below. let within : place < length counts = omega arith in get_or-append counts (count ∷ []) 0 place within ∙ so_far place below)
    (ap (λ place. get_or (counts ++ count ∷ []) place 0) (sym size) ∙ get_or-append_seam counts count [] 0 ∙ is)

-- tables are listed alike whose counts are the same
counted-alike : (tables : List TableDef) (first second : ℕ → ℕ) (n : ℕ) (rest : List TableDef) → ((k : ℕ) → k < length rest → first (n + k) ≡ second (n + k)) → tables_lines tables first n rest ≡ tables_lines tables second n rest
counted-alike tables first second n [] same = refl
counted-alike tables first second n (table ∷ rest) same =
    let here : first n ≡ second n = subst (λ m. first m ≡ second m) (add-zero n) (same 0 (omega arith)) in
    let behind : (k : ℕ) → k < length rest → first ((n + 1) + k) ≡ second ((n + 1) + k) =
    λ k below. let moved : n + (k + 1) ≡ (n + 1) + k = omega arith in subst (λ m. first m ≡ second m) moved (same (k + 1) (omega arith)) in
    ap (λ v. table_lines tables n table v ++ tables_lines tables first (n + 1) rest) here
    ∙ ap (λ r. table_lines tables n table (second n) ++ r) (counted-alike tables first second (n + 1) rest behind)

-- the list of an engine is its history's
listed-of : {S : Type 0} (g : Ghosts S) (history : History) (engine : EngineState S) (counts : List ℕ) → EngineRepresents g history engine → AreCountsOf history counts →
    clock_line engine.clock ++ tables_lines engine.catalog.tables (λ (number : ℕ). get_or counts (number - 1) 0) 1 engine.catalog.tables ≡ listing_of history
listed-of g history engine counts stands are =
    let count : ℕ → ℕ = λ number. get_or counts (number - 1) 0 in
    let clock : engine.clock ≡ clock_of history = stands.stored.clock ∙ stands.said.clock in
    let tables : engine.catalog.tables ≡ catalog_of history = stands.stored.catalog ∙ stands.said.tables in
    ap (λ moment. clock_line moment ++ tables_lines engine.catalog.tables count 1 engine.catalog.tables) clock
    ∙ ap (λ (ts : List TableDef). clock_line (clock_of history) ++ tables_lines ts count 1 ts) tables
    ∙ ap (λ lines. clock_line (clock_of history) ++ lines) (counted-alike (catalog_of history) count (version_count history) 1 (catalog_of history) each)
  where
    each : (k : ℕ) → k < length (catalog_of history) → get_or counts ((1 + k) - 1) 0 ≡ version_count history (1 + k)
    each k below =
        let place : (1 + k) - 1 ≡ k = omega arith in
        let number : k + 1 ≡ 1 + k = omega arith in
        ap (λ p. get_or counts p 0) place ∙ are k below ∙ ap (version_count history) number

-- a list that is put together from an engine is its history's
pub list-of : {S : Type 0} (g : Ghosts S) (history : History) (engine : EngineState S) (counts : List ℕ) → EngineRepresents g history engine → AreCountsOf history counts →
    (catalog : Catalog) (slice : List ℕ) (moment : ℤ) (empty tables clock bytes whole : List ℕ) → catalog ≡ engine.catalog → slice ≡ counts → moment ≡ engine.clock → empty ≡ [] →
    tables ≡ empty ++ tables_lines catalog.tables (λ (number : ℕ). get_or slice (number - 1) 0) 1 catalog.tables → clock ≡ clock_line moment → bytes ≡ tables → whole ≡ clock ++ bytes → whole ≡ listing_of history
list-of g history engine counts stands are catalog slice moment empty tables clock bytes whole catalog_is slice_is moment_is empty_is tables_are clock_is bytes_are whole_is =
    let count : ℕ → ℕ = λ number. get_or counts (number - 1) 0 in
    let lines : tables ≡ tables_lines engine.catalog.tables count 1 engine.catalog.tables =
    tables_are
    ∙ ap (λ e. e ++ tables_lines catalog.tables (λ (number : ℕ). get_or slice (number - 1) 0) 1 catalog.tables) empty_is
    ∙ ap (λ (s : List ℕ). tables_lines catalog.tables (λ (number : ℕ). get_or s (number - 1) 0) 1 catalog.tables) slice_is
    ∙ ap (λ (k : Catalog). tables_lines k.tables count 1 k.tables) catalog_is in
    whole_is
    ∙ ap (λ b. clock ++ b) (bytes_are ∙ lines)
    ∙ ap (λ k. k ++ tables_lines engine.catalog.tables count 1 engine.catalog.tables) (clock_is ∙ ap clock_line moment_is)
    ∙ listed-of g history engine counts stands are
