use Rattle.std.proofs.Common.{◌≡◌, ◌-◌, ◌∙◌, ℕ, suc, List, Some, arith, set, sym, zero}
use Rattle.period_core.specs.declared.version.VersionRow.{VersionRow}
use Rattle.catalog_core.specs.table.TableWords.{table_of}
use Rattle.version_store.specs.Contents.{rows_of_table}
use Rattle.version_store.proofs.ReadRows.{here, others_stay}
use Rattle.script_engine.proofs.engine.loaded.take_rows.Goals as goal

-- the list of a number, and the others where it is written
its_list : (lists : List (List VersionRow)) (number : ℕ) (list : List VersionRow) → table_of lists number ≡ Some list → rows_of_table lists number ≡ list
its_list lists zero list there = cc
its_list lists (suc place) list there = here lists place list there

elsewhere : (lists : List (List VersionRow)) (number : ℕ) (list new : List VersionRow) → table_of lists number ≡ Some list → (other : ℕ) → (other ≡ number → ⊥) → rows_of_table (set lists (number - 1) new) other ≡ rows_of_table lists other
elsewhere lists zero list new there other apart = cc
elsewhere lists (suc place) list new there other apart = let e : suc place - 1 ≡ place = omega arith in rw e (others_stay lists place new other apart)

pub returns-clause-taken : goal.returns-clause-taken
returns-clause-taken c = c.replace.ensures.value ∙ sym (its_list c.args.lists.now.items c.args.number c.in-Some.list.now c.in-Some.ensures.found)

pub returns-clause-others : goal.returns-clause-others
returns-clause-others c = elsewhere c.args.lists.now.items c.args.number c.in-Some.list.now c.replace.new.dest c.in-Some.ensures.found
