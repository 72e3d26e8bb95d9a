pub mod ReadingLemmas
pub mod ToldLemmas
pub mod LoadedLemmas
pub mod TextLemmas
pub mod MadeLemmas
pub mod LinesLemmas
pub mod OpenedLemmas
pub mod PiecesLemmas
