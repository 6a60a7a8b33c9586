-- Copies of a store in files of their own.
use Rattle.std.specs.Prelude.{◌≡◌, IfOk, List, Result, ℕ}
use Rattle.sqlite.specs.Held.{Held, state}
use Rattle.sqlite.specs.Store.{Ghosts}
use Rattle.sqlite_disk.specs.Memory.{memory_bytes}
use Rattle.sqlite_disk.specs.declared.memory.Memory.{Memory}
use Rattle.version_store.specs.StoreState.{IsUsable}
use Rattle.history_model.specs.Histories.{History}
use Rattle.script_engine.specs.engine.Stored.{DatabaseRepresents}
use Rattle.command_line.specs.declared.fault.RunFault.{RunFault}
use Rattle.bitemporal_file.specs.Copies.{IsFileOf}
use Rattle.bitemporal_file.specs.StoreFiles.{Filing}
use Rattle.bitemporal_file.specs.StoreRuns.{LeadsDatabase, Uses}
use Rattle.bitemporal_file.specs.declared.reporter.Reporter.{Reporter}

-- a copy of an open store is made in a file of that name: the history stays, the system made the
-- file with some bytes, and if the store's disk returned what was written they are a file of that
-- history
pub record IsCopied {S : Type 0} (g : Ghosts S) (made : List ℕ → List ℕ → Type 0) (name : List ℕ)
    (opened : Held S) (ended : Result Memory RunFault) (closed : Held S) : Type 0 where
  pub same : LeadsDatabase g opened closed (λ history last. last ≡ history)
  pub is_made : IfOk ended (λ file. made name (memory_bytes file))
  pub copied : IfOk ended (λ file. IsUsable g closed → (history : History)
      → DatabaseRepresents history (state g opened).now → IsFileOf history (memory_bytes file))

-- a copy of a store is made in a file of that name, and nothing is reported
abbrev pub BacksUp : {S W N : Type 0} → Ghosts S → (List ℕ → List ℕ → Type 0) → List ℕ → Filing S
    → Result ℕ RunFault → Reporter W N → Type 0
BacksUp {S} {W} {N} g made name files result report =
    Uses g files (λ reporter. reporter ≡ report)
    (λ opened ended closed reporter.
    IsCopied g made name opened ended closed × (reporter ≡ report))
    result report
