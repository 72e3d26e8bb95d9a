pub mod HeldLemmas
pub mod TakenLemmas
pub mod WordLemmas
