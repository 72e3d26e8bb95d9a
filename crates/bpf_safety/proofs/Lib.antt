pub mod Judged
pub mod Registers
pub mod Constants
pub mod StartLaws
pub mod Lists
pub mod TightenedLaws
pub mod EntailLaws
pub mod Operands
pub mod Tags
pub mod Puts
pub mod Offsets
pub mod Areas
pub mod AluValues
pub mod PlainLaws
pub mod BranchLaws
pub mod Tests
pub mod StoredCells
pub mod TouchedCells
pub mod WrittenSlots
pub mod ByteStores
pub mod NumberStores
pub mod FrameStores
pub mod RegisterStores
pub mod ReadCells
pub mod ReadLocations
pub mod KnownNumbers
pub mod Loads
pub mod Calls
pub mod ExtendedLoads
pub mod Atomics
pub mod NotStuck
pub mod Waiting
pub mod StepLaws
mod Basics
mod LawsBelow
mod SlackLaws
mod SlackEnds
mod Here
mod Facts
mod Visits
mod Moves
mod Places
mod Arrive
mod Pay
mod Runs
mod Edges
mod Frames
mod Enter
mod Safe
mod Described
mod SafetyLaw
mod FlatRuns
mod WellFormedLaw
mod WorkLaws
mod FirstLines
mod Assigned
mod StartRanges
