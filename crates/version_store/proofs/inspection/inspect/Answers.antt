use Rattle.std.proofs.Common.{◌≡◌, ◌∙◌, ℤ, [], List, inl, inr, map, of_z, refl, rules, subst, subst₂, sym, to_z, w64}
use Rattle.std.specs.List.Sorted.{IsPermutation}
use Rattle.std.proofs.lemmas.List.Sorted.{IsPermutation-refl}
use Rattle.std.proofs.lemmas.Result.{err_from_is_err_and}
use Rattle.sqlite.specs.Effect.{Database}
use Rattle.sqlite.specs.Held.{state}
use Rattle.sqlite.specs.Order.{Row}
use Rattle.version_tables.proofs.ColumnFacts.{never}
use Rattle.version_tables.proofs.There.{store_has_columns}
use Rattle.version_tables.specs.Giving.{AreVersions}
use Rattle.version_tables.specs.Good.{IsClock}
use Rattle.version_tables.specs.Represents.{HaveOwnRowids, meta_shown, table_shown, version_shown}
use Rattle.version_tables.specs.Rows.{InOrder, by_rowid}
use Rattle.version_tables.specs.Tables.{HasStoreTables}
use Rattle.version_store.proofs.AfterCalls.{unread_by, unread_since}
use Rattle.version_store.proofs.Judged.{other_versions}
use Rattle.version_store.proofs.Keys.{keys_kept}
use Rattle.version_store.proofs.Opens.{all_lawful, has_contents, points_fail, points_hold}
use Rattle.version_store.proofs.ReadRows.{say_all, versions_read}
use Rattle.version_store.specs.GoodStore.{AreDefinitions}
use Rattle.version_store.proofs.inspection.inspect.Goals as goal

pub returns-clause-good : goal.returns-clause-good
returns-clause-good g c clean on has =
    let old = (state g.S.Store c.args.connection.now).now in
    let clean3 = c.in_ok-lists.ensures.clean clean in
    let clean2 = c.check_keys.ensures.clean clean3 in
    let clean1 = c.in_ok-tables.ensures.reads.clean clean2 in
    let u1 = c.in_ok-metas.ensures.reads.unchanged clean1 in
    let now1 = u1.0.now_is in
    let has1 = subst (λ (d : Database). HasStoreTables d.schema) (sym now1) has in
    let now2 = (c.in_ok-tables.ensures.reads.unchanged clean2).0.now_is ∙ now1 in
    let has2 = subst (λ (d : Database). HasStoreTables d.schema) (sym now2) has in
    let now3 = (c.in_ok-check_keys.ensures.unchanged clean3).0.now_is ∙ now2 in
    let has3 = subst (λ (d : Database). HasStoreTables d.schema) (sym now3) has in
    let pm = subst (IsPermutation (map meta_shown (old.trees 0))) (sym c.deref.ensures.value) (c.in_ok-metas.ensures.shows clean1 has) in
    let pt = subst₂ (λ (d : Database) (rows : List Row). InOrder table_shown by_rowid (d.trees 1) rows) now1 (sym c.deref-2.ensures.value) (c.in_ok-tables.ensures.shows clean2 has1) in
    let own = subst (λ (d : Database). HaveOwnRowids (d.trees 2)) now2 (c.in_ok-check_keys.ensures.own clean3 has2) in
    let keys = keys_kept old has (c.schema-live.ensures.live u1.0.was_open).0 own.0 own.1 in
    let read = c.in_ok-lists.ensures.read clean has3 in
    let pv = subst (λ (d : Database). AreVersions d read.0) now3 read.1 in
    let found = c.in_ok-catalog in
    let clock : ℤ = to_z w64 (of_z w64 found.clock) in
    let e : clock ≡ found.clock = search rules in
    let says = subst (AreDefinitions c.deref.result.now c.deref-2.result.now found.catalog.tables found.form) (sym e) found.ensures.good in
    let good = points_hold old c.deref.result.now c.deref-2.result.now read.0 pm pt pv has keys found.catalog.tables found.form clock says (say_all found.form found.catalog.tables clock read.0 c.in_ok-lists.lists.items read.2) in
    (good.0, has_contents old good.0 own.0 own.1, good.1, good.2, good.3)

-- the versions read are the versions of whatever contents the database has
pub returns-clause-versions : goal.returns-clause-versions
returns-clause-versions g c clean on d has =
    let old = (state g.S.Store c.args.connection.now).now in
    let clean3 = c.in_ok-lists.ensures.clean clean in
    let clean2 = c.check_keys.ensures.clean clean3 in
    let clean1 = c.in_ok-tables.ensures.reads.clean clean2 in
    let now3 = (c.in_ok-check_keys.ensures.unchanged clean3).0.now_is ∙ (c.in_ok-tables.ensures.reads.unchanged clean2).0.now_is ∙ (c.in_ok-metas.ensures.reads.unchanged clean1).0.now_is in
    let has3 = subst (λ (e : Database). HasStoreTables e.schema) (sym now3) has.rows.schema in
    let read = c.in_ok-lists.ensures.read clean has3 in
    let pv = subst (λ (e : Database). AreVersions e read.0) now3 read.1 in
    let found = c.in_ok-catalog in
    versions_read old read.0 found.form found.catalog.tables (to_z w64 (of_z w64 found.clock)) c.in_ok-lists.lists.items d pv read.2 has

pub returns-clause-lawful : goal.returns-clause-lawful
returns-clause-lawful g c = all_lawful [] c.deref-2.result.now c.in_ok-catalog.catalog.tables c.in_ok-catalog.ensures.good.defined.each

pub returns-clause-clock : goal.returns-clause-clock
returns-clause-clock g c =
    let found = c.in_ok-catalog in
    let e : to_z w64 (of_z w64 found.clock) ≡ found.clock = search rules in
    subst (IsClock found.form) (sym e) found.ensures.good.meta.1

-- ---- a store that is no good one

-- a good store's tables have their columns
pub returns-then-not-columns_there-clause-bad : goal.returns-then-not-columns_there-clause-bad
returns-then-not-columns_there-clause-bad g c clean on has = λ _ _.
    let all = store_has_columns (state g.S.Store c.args.connection.now).now.schema has in
    never (sym c.if-not-columns_there.true ∙ c.columns_there.ensures ∙ all)

pub returns-in_err-check_keys-clause-bad : goal.returns-in_err-check_keys-clause-bad
returns-in_err-check_keys-clause-bad g c clean on has =
    let p = err_from_is_err_and c.from_residual-in_err-check_keys.result c.from_residual-in_err-check_keys.ensures.1 in
    let clean2 = c.check_keys.ensures.clean clean in
    let now1 = (c.in_ok-metas.ensures.reads.unchanged (c.in_ok-tables.ensures.reads.clean clean2)).0.now_is in
    let has2 = subst (λ (d : Database). HasStoreTables d.schema) (sym ((c.in_ok-tables.ensures.reads.unchanged clean2).0.now_is ∙ now1)) has in
    rw (p.1, p.2) (λ bad _. c.in_err-check_keys.ensures.other clean has2 bad)

pub returns-in_err-catalog-clause-bad : goal.returns-in_err-catalog-clause-bad
returns-in_err-catalog-clause-bad g c clean on has =
    let old = (state g.S.Store c.args.connection.now).now in
    let clean2 = c.check_keys.ensures.clean clean in
    let clean1 = c.in_ok-tables.ensures.reads.clean clean2 in
    let now1 = (c.in_ok-metas.ensures.reads.unchanged clean1).0.now_is in
    let has1 = subst (λ (d : Database). HasStoreTables d.schema) (sym now1) has in
    let pm = subst (IsPermutation (map meta_shown (old.trees 0))) (sym c.deref.ensures.value) (c.in_ok-metas.ensures.shows clean1 has) in
    let pt = subst₂ (λ (d : Database) (rows : List Row). InOrder table_shown by_rowid (d.trees 1) rows) now1 (sym c.deref-2.ensures.value) (c.in_ok-tables.ensures.shows clean2 has1) in
    let p = err_from_is_err_and c.from_residual-in_err-catalog.result c.from_residual-in_err-catalog.ensures.1 in
    rw (p.1, p.2)
    (λ bad good. points_fail old c.deref.result.now c.deref-2.result.now (map version_shown (old.trees 2)) pm pt (IsPermutation-refl _) good (λ known form clock says _. c.in_err-catalog.ensures.bad bad known form clock says))

pub returns-in_err-lists-clause-bad : goal.returns-in_err-lists-clause-bad
returns-in_err-lists-clause-bad g c clean on has =
    let old = (state g.S.Store c.args.connection.now).now in
    let clean3 = c.in_err-lists.ensures.clean clean in
    let clean2 = c.check_keys.ensures.clean clean3 in
    let clean1 = c.in_ok-tables.ensures.reads.clean clean2 in
    let now1 = (c.in_ok-metas.ensures.reads.unchanged clean1).0.now_is in
    let has1 = subst (λ (d : Database). HasStoreTables d.schema) (sym now1) has in
    let now3 = (c.in_ok-check_keys.ensures.unchanged clean3).0.now_is ∙ (c.in_ok-tables.ensures.reads.unchanged clean2).0.now_is ∙ now1 in
    let has3 = subst (λ (d : Database). HasStoreTables d.schema) (sym now3) has in
    let pm = subst (IsPermutation (map meta_shown (old.trees 0))) (sym c.deref.ensures.value) (c.in_ok-metas.ensures.shows clean1 has) in
    let pt = subst₂ (λ (d : Database) (rows : List Row). InOrder table_shown by_rowid (d.trees 1) rows) now1 (sym c.deref-2.ensures.value) (c.in_ok-tables.ensures.shows clean2 has1) in
    let ours = c.in_ok-catalog in
    let clock : ℤ = to_z w64 (of_z w64 ours.clock) in
    let e : clock ≡ ours.clock = search rules in
    let says = subst (AreDefinitions c.deref.result.now c.deref-2.result.now ours.catalog.tables ours.form) (sym e) ours.ensures.good in
    let p = err_from_is_err_and c.from_residual-in_err-lists.result c.from_residual-in_err-lists.ensures.1 in
    rw (p.1, p.2)
    (λ bad good.
    let none = c.in_err-lists.ensures.bad clean has3 bad in
    points_fail old c.deref.result.now c.deref-2.result.now none.0 pm pt (subst (λ (d : Database). AreVersions d none.0) now3 none.1) good
    (λ known form other theirs. other_versions c.deref.result.now c.deref-2.result.now none.0 ours.catalog.tables known ours.form form clock other says none.2 theirs))

-- ---- why a good store is not read

pub returns-then-not-columns_there-clause-why : goal.returns-then-not-columns_there-clause-why
returns-then-not-columns_there-clause-why g c clean on good own = absurd (returns-then-not-columns_there-clause-bad g c clean on good.tables_there refl good)

pub returns-in_err-metas-clause-why : goal.returns-in_err-metas-clause-why
returns-in_err-metas-clause-why g c clean on good own =
    let p = err_from_is_err_and c.from_residual.result c.from_residual.ensures.1 in
    let read = c.in_err-metas.ensures.reads in
    rw p.1 (unread_by (state g.S.Store c.args.connection.now) (state g.S.Store c.meta_rows.new.connection) _ _ p.2.1 (read.why clean good.tables_there) ((read.keeps clean).was_open on))

pub returns-in_err-tables-clause-why : goal.returns-in_err-tables-clause-why
returns-in_err-tables-clause-why g c clean on good own =
    let p = err_from_is_err_and c.from_residual-in_err-tables.result c.from_residual-in_err-tables.ensures.1 in
    let read = c.in_err-tables.ensures.reads in
    let clean1 = read.clean clean in
    let u1 = c.in_ok-metas.ensures.reads.unchanged clean1 in
    let has1 = subst (λ (d : Database). HasStoreTables d.schema) (sym u1.0.now_is) good.tables_there in
    rw p.1 (unread_since (state g.S.Store c.args.connection.now) (state g.S.Store c.meta_rows.new.connection) (state g.S.Store c.table_rows.new.connection) _ c.in_ok-metas.ensures.reads.faults (unread_by (state g.S.Store c.meta_rows.new.connection) (state g.S.Store c.table_rows.new.connection) _ _ p.2.1 (read.why clean has1) u1.0.is_open))

pub returns-in_err-check_keys-clause-why : goal.returns-in_err-check_keys-clause-why
returns-in_err-check_keys-clause-why g c clean on good own =
    let p = err_from_is_err_and c.from_residual-in_err-check_keys.result c.from_residual-in_err-check_keys.ensures.1 in
    let clean2 = c.check_keys.ensures.clean clean in
    let clean1 = c.in_ok-tables.ensures.reads.clean clean2 in
    let u1 = c.in_ok-metas.ensures.reads.unchanged clean1 in
    let u2 = c.in_ok-tables.ensures.reads.unchanged clean2 in
    let now2 = u2.0.now_is ∙ u1.0.now_is in
    let has2 = subst (λ (d : Database). HasStoreTables d.schema) (sym now2) good.tables_there in
    let own2 = subst (λ (d : Database). HaveOwnRowids (d.trees 2)) (sym now2) own in
    let last = c.in_err-check_keys.ensures.why clean has2 u2.0.is_open own2 in
    rw (p.1, p.2) (unread_since (state g.S.Store c.args.connection.now) (state g.S.Store c.meta_rows.new.connection) (state g.S.Store c.check_keys.new.connection) _ c.in_ok-metas.ensures.reads.faults (unread_since (state g.S.Store c.meta_rows.new.connection) (state g.S.Store c.table_rows.new.connection) (state g.S.Store c.check_keys.new.connection) _ c.in_ok-tables.ensures.reads.faults last))

pub returns-in_err-catalog-clause-why : goal.returns-in_err-catalog-clause-why
returns-in_err-catalog-clause-why g c clean on good own =
    let p = err_from_is_err_and c.from_residual-in_err-catalog.result c.from_residual-in_err-catalog.ensures.1 in
    let none = rw (p.1, p.2) at (returns-in_err-catalog-clause-bad g c clean on good.tables_there) in
    rw (p.1, p.2) (elim c.in_err-catalog.ensures.named [ inl bad ↦ absurd (none bad good) | inr memory ↦ inl memory ])

pub returns-in_err-lists-clause-why : goal.returns-in_err-lists-clause-why
returns-in_err-lists-clause-why g c clean on good own =
    let p = err_from_is_err_and c.from_residual-in_err-lists.result c.from_residual-in_err-lists.ensures.1 in
    let none = rw (p.1, p.2) at (returns-in_err-lists-clause-bad g c clean on good.tables_there) in
    let clean3 = c.in_err-lists.ensures.clean clean in
    let clean2 = c.check_keys.ensures.clean clean3 in
    let clean1 = c.in_ok-tables.ensures.reads.clean clean2 in
    let u3 = c.in_ok-check_keys.ensures.unchanged clean3 in
    let now3 = u3.0.now_is ∙ (c.in_ok-tables.ensures.reads.unchanged clean2).0.now_is ∙ (c.in_ok-metas.ensures.reads.unchanged clean1).0.now_is in
    let has3 = subst (λ (d : Database). HasStoreTables d.schema) (sym now3) good.tables_there in
    let new = state g.S.Store c.read_versions.new.connection in
    rw (p.1, p.2)
    (elim (c.in_err-lists.ensures.why clean has3 u3.0.is_open) [
      | inl bad ↦ absurd (none bad good)
      | inr unread ↦ unread_since (state g.S.Store c.args.connection.now) (state g.S.Store c.meta_rows.new.connection) new _ c.in_ok-metas.ensures.reads.faults (unread_since (state g.S.Store c.meta_rows.new.connection) (state g.S.Store c.table_rows.new.connection) new _ c.in_ok-tables.ensures.reads.faults (unread_since (state g.S.Store c.table_rows.new.connection) (state g.S.Store c.check_keys.new.connection) new _ c.check_keys.ensures.faults unread))
    ])
