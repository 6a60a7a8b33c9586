pub mod Places
pub mod Leasts
pub mod GapSteps
pub mod Members
pub mod Answered
pub mod Pairs
pub mod RowOrder
pub mod SweepSteps
pub mod InOrder
pub mod Edited
pub mod Loops
pub mod Runs
pub mod Blocks
pub mod PlacedRows
pub mod NearRows
pub mod Grouped
pub mod Entered
pub mod Periods
pub mod Locality
pub mod Indexes
pub mod MappedPairs
pub mod ByDays
pub mod Origins
pub mod LawfulFacts
pub mod VersionKeys
pub mod Fixed
pub mod FirstHeld
pub mod EqualPlaces
pub mod KeyAfter
pub mod PlanParts
pub mod FaultFacts
pub mod Ranged
pub mod Picked
pub mod RangeKeys
pub mod Limits
pub mod ReferenceFacts
pub mod TableLists
pub mod Earlier
pub mod StateFacts
pub mod Partly
pub mod Touched
pub mod Covered
pub mod EntryKeys
pub mod KeysInOrder
pub mod ByGroups
pub mod RowsWithin
mod KeyExamples
mod KeyAfterExamples
mod LawfulExamples
mod CurrentExamples
mod SecondaryExamples
