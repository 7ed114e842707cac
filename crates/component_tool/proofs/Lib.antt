pub mod TextEnds
pub mod SourceLemmas
pub mod RunLemmas
pub mod OneAnswer
