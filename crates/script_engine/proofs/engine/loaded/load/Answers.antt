use Rattle.std.proofs.Common.{◌≡◌, ◌<◌, ◌≤◌, ◌+◌, ◌++◌, ◌∷◌, ◌∙◌, ℕ, List, [], ap, arith, inl, inr, get_or, length, length-append, map, subst, sym}
use Rattle.std.specs.List.Sorted.{IsPermutation}
use Rattle.std.proofs.lemmas.List.Elements.{All-push}
use Rattle.std.proofs.lemmas.Result.{err_from_is_err_and}
use Rattle.catalog_core.specs.declared.table.TableDef.{TableDef}
use Rattle.ended_versions.specs.Packed.{AreEndedBy}
use Rattle.period_core.specs.declared.version.VersionRow.{VersionRow}
use Rattle.period_keys.specs.Lawful.{key_positions}
use Rattle.version_store.specs.Contents.{Contents, of_table, rows_of_table, version_in}
use Rattle.script_engine.specs.engine.Ended.{AllEndedBy}
use Rattle.script_engine.specs.engine.InMemory.{AreReadOf}
use Rattle.script_engine.proofs.EndedInTime.{none_late}
use Rattle.script_engine.proofs.EndedLoaded.{table_loaded}
use Rattle.script_engine.proofs.EndedLoaded.{AreLoaded as AreEndedLoaded, all_loaded as all_ended, one_loaded as one_ended}
use Rattle.script_engine.proofs.Loaded.{AreLoaded, all_loaded, current_loaded, one_loaded}
use Rattle.script_engine.proofs.engine.loaded.load.Goals as goal

pub loop-place-preserved : goal.loop-place-preserved
loop-place-preserved c =
    let place : ℕ = c.loop-place.place in
    let inv = c.loop-place.invariant in
    let lists : List (List VersionRow) = c.args.lists.items in
    let versions : List VersionRow = c.take_rows-versions.result in
    let given : versions ≡ rows_of_table lists (place + 1) = c.take_rows-versions.ensures.taken ∙ inv.left (place + 1) (omega arith) in
    let ends : c.len-place-end.result ≡ length c.args.catalog.now.tables = c.len-place-end.ensures in
    let inside : place < length c.args.catalog.now.tables = omega (arith, c.loop-place-test.true, ends) in
    let table : TableDef = c.index-as_slice-place.result in
    let of_contents = λ (d : Contents) (read : AreReadOf d c.args.catalog.now.tables lists).
    subst (λ (l : List VersionRow). IsPermutation (of_table (place + 1) d.versions) (map (version_in (place + 1)) l)) (sym given) (read.versions (place + 1)) in
    record {
      long =
          (let was = inv.long in
          let more : length c.push.new.self.items ≡ length (c.loop-place.tables.items ++ c.in_ok-rows.rows ∷ []) = ap length c.in_ok-push.ensures.items in
          omega (arith, was, more, length-append c.loop-place.tables.items (c.in_ok-rows.rows ∷ [])));
      ended_long =
          (let was = inv.ended_long in
          let more : length c.push-in-loop-place.new.self.items ≡ length (c.loop-place.ended.items ++ c.in_ok-rows.list ∷ []) = ap length c.in_ok-push-2.ensures.items in
          omega (arith, was, more, length-append c.loop-place.ended.items (c.in_ok-rows.list ∷ [])));
      below = omega (arith, inside);
      left = λ number above. c.take_rows-versions.ensures.others number (λ same. omega (arith, above, same)) ∙ inv.left number (omega (arith, above));
      current = λ d read.
          let size : place < length d.tables = subst (λ (l : List TableDef). place < length l) read.same inside in
          let tables : c.as_slice.result.now ≡ d.tables = c.as_slice.ensures ∙ read.same in
          let key : c.in_ok-rows.rows.positions ≡ key_positions (get_or d.tables place table) =
          c.in_ok-rows.ensures.keys ∙ ap key_positions (c.index-as_slice-place.is ∙ ap (λ (l : List TableDef). get_or l place table) tables) in
          subst (AreLoaded d (place + 1)) (sym c.in_ok-push.ensures.items)
          (one_loaded d place c.loop-place.tables.items c.in_ok-rows.rows table (inv.current d read) size key
          (current_loaded d (place + 1) versions c.in_ok-rows.rows.rows (of_contents d read) c.in_ok-rows.ensures.current));
      ended = λ d read.
          let held = c.in_ok-rows.ensures.ended in
          subst (AreEndedLoaded d (place + 1)) (sym c.in_ok-push-2.ensures.items)
          (one_ended d place c.loop-place.ended.items c.in_ok-rows.list (inv.ended d read)
          (table_loaded d (place + 1) versions held.0 c.in_ok-rows.list (of_contents d read) held.1 held.2));
      before = subst (AllEndedBy c.args.clock) (sym c.in_ok-push-2.ensures.items)
          (All-push (AreEndedBy c.args.clock) c.loop-place.ended.items c.in_ok-rows.list inv.before c.in_ok-rows.ensures.before);
    }

pub returns-clause-count : goal.returns-clause-count
returns-clause-count c =
    let long = c.loop-place.invariant.long in
    let below = c.loop-place.invariant.below in
    omega (arith, long, below, c.loop-place-test.false, c.len-place-end.ensures)

pub returns-clause-ended_count : goal.returns-clause-ended_count
returns-clause-ended_count c =
    let long = c.loop-place.invariant.ended_long in
    let below = c.loop-place.invariant.below in
    omega (arith, long, below, c.loop-place-test.false, c.len-place-end.ensures)

pub returns-clause-current : goal.returns-clause-current
returns-clause-current c d read =
    let place = c.loop-place.place in
    let all : length d.tables ≤ place = subst (λ (l : List TableDef). length l ≤ place) read.same (omega (arith, c.loop-place-test.false, c.len-place-end.ensures)) in
    all_loaded d place c.loop-place.tables.items all (c.loop-place.invariant.current d read) read.tabled

pub returns-clause-ended : goal.returns-clause-ended
returns-clause-ended c d read =
    let place = c.loop-place.place in
    let all : length d.tables ≤ place = subst (λ (l : List TableDef). length l ≤ place) read.same (omega (arith, c.loop-place-test.false, c.len-place-end.ensures)) in
    all_ended d place c.loop-place.ended.items all (c.loop-place.invariant.ended d read) read.tabled

-- of a good store no version ended too late
pub returns-in_err-rows-clause-why : goal.returns-in_err-rows-clause-why
returns-in_err-rows-clause-why c =
    let p = err_from_is_err_and c.from_residual.result c.from_residual.ensures.1 in
    rw (p.1, p.2) (λ d read good clock.
    let number : ℕ = c.loop-place.place + 1 in
    let lists : List (List VersionRow) = c.args.lists.items in
    let versions : List VersionRow = c.take_rows-versions.result in
    let given : versions ≡ rows_of_table lists number = c.take_rows-versions.ensures.taken ∙ c.loop-place.invariant.left number (omega arith) in
    let all = subst (λ (l : List VersionRow). IsPermutation (of_table number d.versions) (map (version_in number) l)) (sym given) (read.versions number) in
    elim c.in_err-rows.ensures.why [
      | inl memory ↦ memory
      | inr late ↦ absurd (none_late d c.args.clock number versions good clock all late)
    ])
