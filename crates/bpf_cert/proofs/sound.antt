pub mod SoundLemmas
pub mod SoundStates
pub mod SoundSteps
pub mod SoundBuilder
