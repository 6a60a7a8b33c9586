use Rattle.std.proofs.Common.{sym}
use Rattle.statement_resolution.specs.change.Insertion.{given_names}
use Rattle.statement_resolution.proofs.change.insert_places.given_places.Goals as goal

pub returns-in-Some : goal.returns-in-Some
unfolding given_names
returns-in-Some c = rw (c.in-Some.is, sym c.as_slice.ensures.value) c.def_places.ensures.value

pub returns-in-None : goal.returns-in-None
unfolding given_names
returns-in-None c = rw c.in-None.is c.wanted_places.ensures
