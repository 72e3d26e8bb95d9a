-- Definitions, in the order in which they read best.
-- where context and frames lie far apart
pub mod Far
-- the flat run that takes 0 for all that is left open
pub mod Zero
-- what is promised: the new program ends with the old one's number
pub mod Meaning
-- the same of all far placements and all that is left open
pub mod Anywhere
-- the same of the exact machine
pub mod Exact
-- what the new program has in a place, by what the old one has
pub mod Terms
-- the slots of the frame
pub mod Slots
-- what is known of the new program's numbers by itself
pub mod States
-- what instructions make of that
pub mod Rules
-- what extra ones make, and what holds behind a change
pub mod Behind
-- which ways of tests neither program goes
pub mod Ways
-- counters of turns
pub mod Counters
-- calls of local functions
pub mod Calls
-- guards
pub mod Guards
-- what the notes have to say at each slot
pub mod Matching
-- the laws
pub mod Laws
-- what notes that match show
pub mod Shown
-- why notes don't match
pub mod Mismatches
-- what the code hands on
pub mod Fronts
pub mod Knowns
pub mod Sites
