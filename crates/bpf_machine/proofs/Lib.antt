pub mod ByteLemmas
pub mod StackLemmas
pub mod FrameLemmas
pub mod StepLemmas
pub mod RunLemmas
pub mod RegisterLemmas
pub mod NextLemmas
pub mod StandingLemmas
