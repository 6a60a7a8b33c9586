-- A new store is one of the history to which nothing was done.
use Rattle.std.proofs.Common.{◌≡◌, [], refl, arith, zero, suc, ℕ, ℤ}
use Rattle.std.specs.List.{All}
use Rattle.std.proofs.lemmas.Int.{ints}
use Rattle.std.proofs.lemmas.List.Elements.{All-nil}
use Rattle.std.proofs.lemmas.List.Sorted.{IsPermutation-refl}
use Rattle.sqlite.specs.Store.{Ghosts}
use Rattle.period_core.specs.Moments.{first_moment}
use Rattle.version_store.specs.Contents.{empty_contents}
use Rattle.history_model.specs.Histories.{last_state, new_database, opened, versions_in}
use Rattle.history_model.specs.Versions.{IsRecorded}
use Rattle.script_engine.specs.engine.EngineState.{EngineState}
use Rattle.script_engine.specs.engine.Stored.{AreOfHistory, EngineRepresents, HasContents, HoldsTable}
use Rattle.script_engine.proofs.LastState.{lawful_empty}

holds_none : (table : ℕ) → HoldsTable (opened new_database) [] table
holds_none zero = record { rows = []; left = IsPermutation-refl []; all = IsPermutation-refl [] }
holds_none (suc place) = record { rows = []; left = IsPermutation-refl []; all = IsPermutation-refl [] }

recorded_none : (table : ℕ) → All (IsRecorded first_moment) (versions_in new_database table)
recorded_none zero = All-nil (IsRecorded first_moment)
recorded_none (suc place) = All-nil (IsRecorded first_moment)

no_rows : (table : ℕ) (day : ℤ) → last_state (opened new_database) table day ≡ []
no_rows zero day = refl
no_rows (suc place) day = refl

said_new : AreOfHistory (opened new_database) empty_contents
said_new = record {
  order = record { before = omega (arith, ints); recorded = recorded_none; events = tt };
  clock = refl;
  tables = refl;
  versions = holds_none;
  good = record { clock = (omega (arith, ints), omega (arith, ints)); few = omega arith; lawful = tt; versions = tt; constrained = tt };
  lawful = lawful_empty [] (last_state (opened new_database)) no_rows;
}

pub new_store : {S : Type 0} (g : Ghosts S) (engine : EngineState S) → HasContents g engine empty_contents → EngineRepresents g (opened new_database) engine
new_store g engine has = record { contents = empty_contents; stored = has.stored; said = said_new; current = has.current; ended = has.ended }
