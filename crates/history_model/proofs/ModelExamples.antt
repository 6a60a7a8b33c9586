-- Worked rows of the model: what an INSERT makes of a day, versions as of a moment, the ordinary query on a day.
-- ChangeExamples has UPDATE and DELETE.
use Rattle.std.proofs.Common.{◌≡◌, pos, List, [], ◌∷◌, codes, refl, subst, arith}
use Rattle.std.specs.List.{Contains}
use Rattle.std.proofs.lemmas.Int.{ints}
use Rattle.period_core.proofs.Periods.{period_over}
use Rattle.period_core.specs.Moments.{forever}
use Rattle.period_core.specs.Seconds.{last_second}
use Rattle.period_core.specs.declared.value.Value.{Value}
use Rattle.period_core.specs.declared.value.Value.TheVariants.{Int}
use Rattle.period_core.specs.declared.version.VersionRow.{VersionRow}
use Rattle.period_core.specs.declared.window.Window.TheVariants.{Now}
use Rattle.history_model.specs.Versions.{last_moment}
use Rattle.history_model.specs.Moved.{moved_version}
use Rattle.history_model.specs.Histories.{Queried, Changed, History, last_state, new_database, opened, state_at, with_event}
use Rattle.catalog_core.specs.declared.change.Action.TheVariants.{Insert}
use Rattle.catalog_core.specs.declared.change.Change.{Change}
use Rattle.catalog_core.specs.declared.change.InsertedRow.{InsertedRow}
use Rattle.catalog_core.specs.declared.query.resolved.Select.{Select}
use Rattle.catalog_core.specs.declared.table.ValueKind.TheVariants.{Integer}
use Rattle.catalog_core.specs.query.Queries.{one}
use Rattle.history_model.specs.OrdinaryQuery.{InAnswerOn}

-- employee 1 of department 3
abbrev worker : List Value
worker = Int (pos 1) ∷ Int (pos 3) ∷ []

-- the inserted row: from day 10 on and before day 20
abbrev given : InsertedRow
given = record { values = worker; start = pos 10; end = pos 20 }

abbrev inserted : Change
inserted = record { table = 1; action = Insert (given ∷ []) }

abbrev history : History
history = with_event (with_event (opened new_database) (Changed (pos 0) inserted)) Queried

-- a version that began at the moment 2 and ended at 4 is held as of 2 and 3 alone, on its days alone
abbrev ended : VersionRow
ended = record { values = worker; period = period_over (pos 10) (pos 20) refl; from = pos 2; to = pos 4 }

-- a version that is moved from seconds begins and ends where its seconds begin, and an open one stays open
in_moments : moved_version ended ≡ record ended { from = pos 2_000_000; to = pos 4_000_000 }
in_moments = refl

still_open : (moved_version (record ended { to = last_second })).to ≡ forever
still_open = refl

-- the department and then the employee
abbrev query : Select
query =
    record {
      references =
          record { place = 0; table = 1; window = Now; kinds = Integer ∷ Integer ∷ [] } ∷ [];
      conjuncts = [];
      items =
          record { position = 1; name = codes "DEPT" }
          ∷ record { position = 0; name = codes "ENO" }
          ∷ [];
    }

-- the ordinary query gives the projection on a day on which the row holds
answered : InAnswerOn history (one query) (pos 15) (Int (pos 3) ∷ Int (pos 1) ∷ [])
answered = (
  worker,
  (
    worker,
    [],
    (last_moment, omega (arith, ints), refl, (0, omega arith, refl)),
    refl,
    refl,
  ),
  refl,
  refl,
)

-- on a day on which the row does not hold, the answer has nothing
unanswered : (row : List Value) → InAnswerOn history (one query) (pos 20) row → ⊥
unanswered row (values, (first, rest, (moment, before, now, there), none, made), met, its) =
    let at_end : Contains (last_state history 1 (pos 20)) first =
    subst (λ m. Contains (state_at history m 1 (pos 20)) first) now there in
    let (place, inside, same) = at_end in omega arith
