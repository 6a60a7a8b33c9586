-- A run over a new store is never refused for a bad one.
use Rattle.std.proofs.Common.{◌≡◌, ℕ, List, inl, inr, refl, subst, sym}
use Rattle.sqlite.specs.Effect.{Database}
use Rattle.sqlite.specs.Schema.{Schema}
use Rattle.period_core.specs.declared.refusal.Refusal.{Refusal}
use Rattle.period_core.specs.declared.refusal.Refusal.TheVariants.{BadStore}
use Rattle.version_tables.specs.Presence.{HasNoStoreTable}
use Rattle.version_tables.specs.Tables.{no_schema}
use Rattle.script_engine.specs.engine.Stored.{IsBadStore}
use Rattle.script_engine.specs.script.Script.{MayRefuseNewRun, MayRefuseRun}

none_there : (s : Schema) → s ≡ no_schema → HasNoStoreTable s
none_there s same = subst HasNoStoreTable (sym same) (record { meta = refl; table = refl; version = refl })

pub never_bad : (script : List ℕ) (refusal : Refusal) (db : Database) → db.schema ≡ no_schema → MayRefuseRun script refusal → (refusal ≡ BadStore → IsBadStore db) → MayRefuseNewRun script refusal
never_bad script refusal db new (inl may) bad = inl may
never_bad script refusal db new (inr (inl is, none)) bad = absurd ((bad is).0 (none_there db.schema new))
never_bad script refusal db new (inr (inr failure, none)) bad = inr (failure, none)
