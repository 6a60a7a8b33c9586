-- Plans over rows in some order.
use Rattle.std.specs.Prelude.{IsPermutation, List}
use Rattle.period_core.specs.declared.version.VersionRow.{VersionRow}
use Rattle.catalog_core.specs.declared.change.Action.{Action}
use Rattle.catalog_core.specs.declared.change.Plan.{Plan}
use Rattle.portion_dml.specs.Plans.{Plans}

-- a plan is the action's over these rows, listed in some order
pub record IsPlanOf (action : Action) (rows : List VersionRow) (plan : Plan) : Type 0 where
  pub listed : List VersionRow
  pub are_rows : IsPermutation rows listed
  pub plans : Plans action listed plan
