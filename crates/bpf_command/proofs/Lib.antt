pub mod TextsLemmas
pub mod HardenedLemmas
pub mod CertifiedLemmas
pub mod ExplainedLemmas
mod ResponseLemmas
pub mod FollowedLemmas
pub mod JudgedLemmas
pub mod EachLemmas
pub mod ReplayedLemmas
pub mod ConvertedLemmas
pub mod StandingLemmas
pub mod EmittedLemmas
mod CommandLemmas
pub mod RowLemmas
