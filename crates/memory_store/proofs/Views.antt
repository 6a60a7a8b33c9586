-- The view of the store after a call: what is written, committed, and left to a cursor.
use Rattle.std.proofs.Common.{◌<◌, ◌≡◌, ◌∙◌, [], Bool, List, None, Some, ap, cond, eq-eqb, eqb, false, get_or, inl, inr, length, ne_eqb, option_map, refl, set, sym, true, ℕ}
use Rattle.std.specs.Vec.{with_item}
use Rattle.std.proofs.lemmas.Bool.{cases_eq}
use Rattle.sqlite_value.specs.Order.{Row}
use Rattle.sqlite_trees.specs.View.{Advances, Commits, OnlyCommits, Snapshot, View}
use Rattle.sqlite_trees.proofs.StoreLemmas.{get_or-set_cases}
use Rattle.ordered_rows.specs.Cursors.{Gives}
use Rattle.memory_store.specs.declared.store.Cursor.{Cursor}
use Rattle.memory_store.specs.declared.store.MemoryStore.{MemoryStore}
use Rattle.memory_store.specs.Content.{snapshot}
use Rattle.memory_store.specs.LoggedContents.{Keeps, base}
use Rattle.memory_store.specs.Memory.{left_in, memory_view}
use Rattle.memory_store.specs.ContentStates.{before_all, marked, state_snapshot, state_of}
use Rattle.memory_store.proofs.Snapshots.{cond_under}

-- the content has this snapshot, and the last commit and the savepoints stay
pub written : (old new : MemoryStore) (to : Snapshot) → Keeps old.logged new.logged → snapshot new.logged.content ≡ to
    → memory_view new ≡ record (memory_view old) { trees = to.trees; shape = to.shape; reals = to.reals; cursors = (memory_view new).cursors }
written old new to keeps is = λ i. record (memory_view new) {
  trees = (is i).trees;
  shape = (is i).shape;
  reals = (is i).reals;
  committed = (state_snapshot (keeps.base i)).trees;
  committed_shape = (state_snapshot (keeps.base i)).shape;
  committed_reals = (state_snapshot (keeps.base i)).reals;
  marks = keeps.marks i;
}

-- There is nothing to undo any more: what the transaction saw is committed, and the savepoints are dropped.
pub commits : (old new : MemoryStore) → new.logged.content ≡ old.logged.content → new.logged.log.items ≡ [] → Commits (memory_view old) (memory_view new)
commits old new content log = record {
  sound = refl;
  is = λ i. record (memory_view new) {
    trees = (snapshot (content i)).trees;
    shape = (snapshot (content i)).shape;
    reals = (snapshot (content i)).reals;
    committed = (state_snapshot (before_all (log i) (state_of (content i)))).trees;
    committed_shape = (state_snapshot (before_all (log i) (state_of (content i)))).shape;
    committed_reals = (state_snapshot (before_all (log i) (state_of (content i)))).reals;
    marks = marked (log i) (state_of (content i));
  };
}

pub only_commits : (old new : View) → Commits old new → OnlyCommits old new
only_commits old new h = λ i. record (h.is i) { committed = new.committed }

-- A cursor gives its next row, or is at its end.
module _ (s : MemoryStore) (at : ℕ) (found moved : Cursor) (row : Row) (within : at < length s.cursors.items) (held : get_or s.cursors.items at None ≡ Some found) where
  in_content : Cursor → List Row
  in_content = left_in s.logged.content

  cursor_at : (c : ℕ) → option_map in_content (get_or (set s.cursors.items at (Some moved)) c None) ≡ cond (eqb c at) (Some (in_content moved)) (option_map in_content (get_or s.cursors.items c None))
  cursor_at c = ap (option_map in_content) (get_or-set_cases s.cursors.items at (Some moved) None within c) ∙ cond_under (option_map in_content) (eqb c at) (Some moved) (get_or s.cursors.items c None)

  pub advances : (more : Bool) → Gives (left_in s.logged.content found) (left_in s.logged.content moved) row more
      → Advances (memory_view s) (memory_view (record s { cursors = with_item s.cursors at (Some moved) })) at row more
  unfolding in_content
  advances true given =
      (left_in s.logged.content moved, ap (option_map in_content) held ∙ ap Some given, λ i. record (memory_view s) { cursors = λ c. cursor_at c i })
  advances false given =
      let still : Some (in_content moved) ≡ option_map in_content (get_or s.cursors.items at None) = ap Some (given.1 ∙ sym given.0) ∙ sym (ap (option_map in_content) held) in
      let same = λ (c : ℕ). cursor_at c ∙ elim (cases_eq c at) [
        | inl is ↦ rw (eq-eqb c at is, is) still
        | inr other ↦ rw (ne_eqb c at other) refl
      ] in
      (ap (option_map in_content) held ∙ ap Some given.0, λ i. record (memory_view s) { cursors = λ c. same c i })

-- A log without changes is the view of the last commit.
pub rolled_back : (old new : MemoryStore) → state_of new.logged.content ≡ base old.logged → new.logged.log.items ≡ [] → memory_view new ≡ record (memory_view old) {
  trees = (memory_view old).committed;
  shape = (memory_view old).committed_shape;
  reals = (memory_view old).committed_reals;
  marks = [];
  cursors = (memory_view new).cursors;
}
rolled_back old new content log = λ i. record (memory_view new) {
  trees = (state_snapshot (content i)).trees;
  shape = (state_snapshot (content i)).shape;
  reals = (state_snapshot (content i)).reals;
  committed = (state_snapshot (before_all (log i) (content i))).trees;
  committed_shape = (state_snapshot (before_all (log i) (content i))).shape;
  committed_reals = (state_snapshot (before_all (log i) (content i))).reals;
  marks = marked (log i) (content i);
}
