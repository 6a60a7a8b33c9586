-- The contents that a store represents after a call, on Ok and on Err.
use Rattle.std.proofs.Common.{◌≡◌, Result, Ok, Err, OnOk, OnErr, IsTrue, inl, inr, sym, subst, ◌∙◌, arith}
use Rattle.std.proofs.Common.{ℕ, ◌+◌, List, [], ◌∷◌, ◌++◌, map, length, ap}
use Rattle.std.proofs.lemmas.List.{length-map, map-append}
use Rattle.std.specs.List.{AllByRecursion}
use Rattle.sqlite_trees.proofs.ListLemmas.{all-append}
use Rattle.version_store.specs.Written.{IsReadable}
use Rattle.catalog_core.specs.declared.table.TableDef.{TableDef}
use Rattle.sqlite.specs.Store.{Ghosts}
use Rattle.sqlite.specs.Effect.{Database}
use Rattle.period_core.specs.declared.refusal.Refusal.{Refusal}
use Rattle.period_core.specs.declared.refusal.Refusal.TheVariants.{Memory as NoMemory}
use Rattle.sqlite.specs.Held.{Held, state}
use Rattle.sqlite.specs.declared.error.Error.{Error}
use Rattle.sqlite.specs.declared.error.Error.TheVariants.{SqliteFailure}
use Rattle.sqlite.specs.declared.error.ErrorCode.TheVariants.{OutOfMemory}
use Rattle.std.specs.Prelude.{IsSome}
use Rattle.sqlite.specs.State.{State}
use Rattle.version_tables.specs.Steps.{HasFault, HasReason, KeepsFaults}
use Rattle.version_store.specs.Faults.{IsCaused, IsUnread}
use Rattle.version_store.specs.declared.fault.OpenFault.{OpenFault}
use Rattle.version_store.specs.declared.fault.OpenFault.TheVariants.{Store}
use Rattle.version_store.specs.declared.fault.StoreFault.{StoreFault}
use Rattle.version_store.specs.declared.fault.StoreFault.TheVariants.{Memory}
use Rattle.version_tables.specs.Represents.{Represents, with_definition}
use Rattle.version_store.specs.Contents.{Contents, HaveColumnValues}
use Rattle.version_store.specs.Changed.{with_table}
use Rattle.version_store.specs.StoreState.{IsFailure, StoreState, StoreRepresents}
use Rattle.version_store.specs.Written.{Has, written, written_table}

-- a property of Ok implies a weaker one
pub on_ok : {X E : Type 0} {P Q : Type 0} (r : Result X E) → (P → Q) → OnOk r P → OnOk r Q
on_ok (Ok x) f h = f h
on_ok (Err e) f h = tt

pub on_err : {X E : Type 0} {P Q : Type 0} (r : Result X E) → (P → Q) → OnErr r P → OnErr r Q
on_err (Ok x) f h = tt
on_err (Err e) f h = f h

-- the database, the catalog and the clock are as they were
pub stays : {S : Type 0} (g : Ghosts S) (old new : StoreState S) (c : Contents) → StoreRepresents g old c
    → ((state g new.connection).now ≡ (state g old.connection).now) × ((state g new.connection).committed ≡ (state g old.connection).committed)
    → new.catalog.tables ≡ old.catalog.tables → new.clock ≡ old.clock → StoreRepresents g new c
stays g old new c was same catalog clock = record {
  now = subst (λ (d : Database). Has d c) (sym same.0) was.now;
  committed = same.1 ∙ was.committed ∙ sym same.0;
  catalog = catalog ∙ was.catalog;
  clock = clock ∙ was.clock;
  dated = was.dated;
}

-- the store's contents after a definition was added
pub table_put : (new : Database) (c : Contents) (d : TableDef) (bytes : List ℕ) → bytes ≡ written_table d → Represents new (with_definition bytes (written c)) → AllByRecursion IsReadable c.tables → IsReadable d → HaveColumnValues c.versions → Has new (with_table d c)
table_put new c d bytes is made definitions one held = record {
  rows = subst (λ (ts : List (List ℕ)). Represents new (record (written c) { tables = ts })) (ap (λ b. map written_table c.tables ++ b ∷ []) is ∙ sym (map-append written_table c.tables (d ∷ []))) made;
  definitions = all-append IsReadable c.tables (d ∷ []) definitions (one, tt);
  values = held;
}

pub next_number : (c : Contents) (tables : List TableDef) (n : ℕ) → tables ≡ c.tables → n ≡ length tables + 1 → n ≡ length (map written_table c.tables) + 1
next_number c tables n same is = is ∙ ap (λ k. k + 1) (ap length same ∙ sym (length-map c.tables written_table))

-- a failure of the database as a refusal
pub failed_by : {S : Type 0} (g : Ghosts S) (old new : Held S) (error : Error) (refusal : Refusal) → (error ≡ SqliteFailure OutOfMemory → refusal ≡ NoMemory) → HasReason (state g old) (state g new) error → IsTrue (state g old).is_open
    → IsFailure g old new refusal
failed_by g old new error refusal memory why on = elim (why on) [ inl out ↦ inl (memory out) | inr fault ↦ inr fault ]

-- a fault since a later state
pub fault_since : (a b c : State) → KeepsFaults a b → HasFault b c → HasFault a c
fault_since a b c kept (inl more) = inl (let earlier = kept.faults in omega (arith, more, earlier))
fault_since a b c kept (inr limit) = inr (subst IsSome kept.limit limit)

-- no fault is forgotten in two steps
pub faults_then : (a b c : State) → KeepsFaults a b → KeepsFaults b c → KeepsFaults a c
faults_then a b c first next = record { faults = (let before = first.faults in let after = next.faults in omega (arith, before, after)); limit = next.limit ∙ first.limit }

-- a query that failed if the connection was open
pub unread_by : (a b : State) (error : Error) (fault : OpenFault) → (error ≡ SqliteFailure OutOfMemory → fault ≡ Store Memory) → HasReason a b error → IsTrue a.is_open → IsUnread a b fault
unread_by a b error fault memory why on = elim (why on) [ inl out ↦ inl (memory out) | inr failed ↦ inr failed ]

pub unread_since : (a b c : State) (fault : OpenFault) → KeepsFaults a b → IsUnread b c fault → IsUnread a c fault
unread_since a b c fault kept (inl memory) = inl memory
unread_since a b c fault kept (inr failed) = inr (fault_since a b c kept failed)

-- an error of the database as a fault of the store
pub caused_by : (a b : State) (error : Error) (fault : StoreFault) → (error ≡ SqliteFailure OutOfMemory → fault ≡ Memory) → HasReason a b error → IsCaused a b fault
caused_by a b error fault memory why = λ on. elim (why on) [ inl out ↦ inl (memory out) | inr failed ↦ inr failed ]

-- a fault of the store as a refusal
pub failed_for : {S : Type 0} (g : Ghosts S) (old new : Held S) (fault : StoreFault) (refusal : Refusal) → (fault ≡ Memory → refusal ≡ NoMemory) → IsTrue (state g old).is_open → IsCaused (state g old) (state g new) fault → IsFailure g old new refusal
failed_for g old new fault refusal memory on caused = elim (caused on) [ inl out ↦ inl (memory out) | inr failed ↦ inr failed ]
