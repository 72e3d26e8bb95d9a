mod FillLemmas
mod CaptureLemmas
pub mod ReplayLemmas
mod CountLemmas
mod PutLemmas
