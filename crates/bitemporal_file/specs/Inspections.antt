-- Reports of a store if nothing is run.
use Rattle.std.specs.Prelude.{ℕ, List, Option, Some, None, if◌then◌else◌}
use Rattle.history_model.specs.Histories.{History}
use Rattle.command_line.specs.declared.file_command.Request.{Request}
use Rattle.bitemporal_file.specs.Listing.{listing_of}
use Rattle.bitemporal_file.specs.Verification.{verification_of}
use Rattle.bitemporal_file.specs.declared.inspections.Inspection.{Inspection}
use Rattle.bitemporal_file.specs.declared.inspections.Inspection.TheVariants.{Sum, Tables}

-- the inspection for which a command line asks, if it asks for one
abbrev pub inspection_in : Request → Option Inspection
inspection_in asked =
    if asked.lists then Some Tables else (if asked.verifies then Some Sum else None)

-- the report of a store that represents the history
abbrev pub report_asked : Inspection → History → List ℕ
report_asked Tables history = listing_of history
report_asked Sum history = verification_of history
