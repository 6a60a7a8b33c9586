use Rattle.std.proofs.Common.{◌-◌, ◌++◌, ℤ, List, map, set, subst, sym}
use Rattle.std.specs.List.Sorted.{IsPermutation}
use Rattle.std.proofs.lemmas.List.Elements.{All-set}
use Rattle.std.proofs.lemmas.Result.{on_err_weaker, on_ok_weaker}
use Rattle.period_core.specs.declared.version.VersionRow.{VersionRow}
use Rattle.catalog_core.specs.declared.table.catalog.Catalog.{Catalog}
use Rattle.ended_versions.specs.Packed.{AreEndedBy, PackedVersion, closed_at}
use Rattle.period_keys.specs.Current.{rows_by_key}
use Rattle.period_keys.specs.TableRows.{HasTableRows, TableRows}
use Rattle.period_keys.specs.Versions.{begun}
use Rattle.script_engine.specs.engine.Ended.{AllEndedBy}
use Rattle.script_engine.specs.engine.InMemory.{AreKeysIn, FollowCatalog, rows_in}
use Rattle.script_engine.specs.engine.TablesState.{TablesState}
use Rattle.script_engine.proofs.EndedAfter.{have_closed, list_ended}
use Rattle.script_engine.proofs.Indexed.{follow_written, have_written, on_ok_both, rows_of_table, rows_there}
use Rattle.script_engine.proofs.Numbers.{set_there}
use Rattle.script_engine.proofs.engine.in_memory.TablesInMemory.apply.Goals as goal

pub apply_change-requires-clause-split : goal.apply_change-requires-clause-split
apply_change-requires-clause-split g c =
    let number = c.args.number in
    let ended : List VersionRow = c.args.plan.now.ended in
    let (stay, split) = c.requires.split in (
      stay,
      subst (λ (l : List VersionRow). IsPermutation l (ended ++ stay)) (rows_of_table c.self.inside.current.items number c.in-Some.table.now c.in-Some.ensures.found)
          (subst (λ (t : TablesState). IsPermutation (rows_in (map rows_by_key t.current) number) (ended ++ stay)) (sym c.self.view_is) split),
    )

pub apply_change-requires-clause-keys : goal.apply_change-requires-clause-keys
apply_change-requires-clause-keys g c =
    let ts : List TableRows = c.self.inside.current.items in
    let given : AreKeysIn (map rows_by_key ts) c.args.number c.args.plan.now.added c.args.keys.items =
    subst (λ (t : TablesState). AreKeysIn (map rows_by_key t.current) c.args.number c.args.plan.now.added c.args.keys.items) (sym c.self.view_is) c.requires.keys in
    given (rows_by_key c.in-Some.table.now) (rows_there ts c.args.number c.in-Some.table.now c.in-Some.ensures.found)

pub apply_change-requires-clause-before : goal.apply_change-requires-clause-before
apply_change-requires-clause-before g c =
    list_ended c.args.store.now.clock c.self.inside.ended.items c.args.number c.in-Some-of_number_mut.ended.now c.in-Some-of_number_mut.ensures.found
    (subst (λ (t : TablesState). AllEndedBy c.args.store.now.clock t.ended) (sym c.self.view_is) c.requires.before)

pub returns-clause-made : goal.returns-clause-made
returns-clause-made g c =
    let ts : List TableRows = c.self.inside.current.items in
    let number = c.args.number in
    let old : TableRows = c.in-Some.table.now in
    let new : TableRows = c.apply_change.new.table in
    let there = c.in-Some.ensures.found in
    let ended : List VersionRow = c.args.plan.now.ended in
    let begins : List VersionRow = map (begun c.args.store.now.clock) c.args.plan.now.added in
    rw (← c.self.view_is) (λ stay split.
    on_ok_weaker c.apply_change.result (λ has. have_written ts number old new (begins ++ stay) there has)
    (c.apply_change.ensures.made stay (subst (λ (l : List VersionRow). IsPermutation l (ended ++ stay)) (rows_of_table ts number old there) split)))

pub returns-clause-none : goal.returns-clause-none
returns-clause-none g c =
    let ts : List TableRows = c.self.inside.current.items in
    let number = c.args.number in
    let old : TableRows = c.in-Some.table.now in
    let new : TableRows = c.apply_change.new.table in
    let there = c.in-Some.ensures.found in
    rw (← c.self.view_is) (on_err_weaker c.apply_change.result
    (λ has. have_written ts number old new (rows_in (map rows_by_key ts) number) there (subst (λ (l : List VersionRow). HasTableRows l old new) (sym (rows_of_table ts number old there)) has))
    c.apply_change.ensures.none)

pub returns-clause-follow : goal.returns-clause-follow
returns-clause-follow g c =
    let ts : List TableRows = c.self.inside.current.items in
    let followed = subst (λ (t : TablesState). FollowCatalog c.args.store.now.catalog.tables t.current) (sym c.self.view_is) c.requires.follow in
    subst (λ (k : Catalog). FollowCatalog k.tables (set ts (c.args.number - 1) c.apply_change.new.table)) (sym c.apply_change.ensures.stored.catalog)
    (follow_written c.args.store.now.catalog.tables ts c.args.number c.in-Some.table.now c.apply_change.new.table c.in-Some.ensures.found c.apply_change.ensures.indexed followed)

pub returns-clause-appended : goal.returns-clause-appended
returns-clause-appended g c =
    let lists : List (List PackedVersion) = c.self.inside.ended.items in
    let old : List PackedVersion = c.in-Some-of_number_mut.ended.now in
    let new : List PackedVersion = c.apply_change.new.ended in
    let closed : List VersionRow = closed_at c.args.store.now.clock c.args.plan.now.ended in
    rw (← c.self.view_is) (on_ok_both c.apply_change.result
    (λ held made. have_closed lists c.args.number old new closed c.in-Some-of_number_mut.ensures.found held made)
    c.apply_change.ensures.column_values c.apply_change.ensures.appended)

pub returns-clause-unchanged : goal.returns-clause-unchanged
returns-clause-unchanged g c =
    rw (← c.self.view_is) (on_err_weaker c.apply_change.result
    (λ same. set_there c.self.inside.ended.items c.args.number c.in-Some-of_number_mut.ended.now c.apply_change.new.ended c.in-Some-of_number_mut.ensures.found same)
    c.apply_change.ensures.unchanged)

pub returns-clause-ended_by_clock : goal.returns-clause-ended_by_clock
returns-clause-ended_by_clock g c =
    let lists : List (List PackedVersion) = c.self.inside.ended.items in
    let before : AllEndedBy c.args.store.now.clock lists = subst (λ (t : TablesState). AllEndedBy c.args.store.now.clock t.ended) (sym c.self.view_is) c.requires.before in
    subst (λ (m : ℤ). AllEndedBy m (set lists (c.args.number - 1) c.apply_change.new.ended)) (sym c.apply_change.ensures.stored.clock)
    (All-set (AreEndedBy c.args.store.now.clock) lists (c.args.number - 1) c.apply_change.new.ended c.apply_change.ensures.ended_by_clock before)
