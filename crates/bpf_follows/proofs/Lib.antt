mod Spelled
mod Loops
mod Decimals
mod TermLemmas
mod FactLemmas
mod ListLemmas
mod Elements
mod Again
mod Found
mod Said
mod Whole
mod Course
mod Noted
mod EndLemmas
mod ShownLemmas
mod FaultLemmas
pub mod ExitLemmas
pub mod TrapLaws
pub mod StandLemmas
