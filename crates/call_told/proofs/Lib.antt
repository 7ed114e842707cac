pub mod Examples
pub mod EdgeLemmas
pub mod ToldLemmas
pub mod TextLemmas
pub mod WordLemmas
pub mod StretchLemmas
pub mod OneAsked
