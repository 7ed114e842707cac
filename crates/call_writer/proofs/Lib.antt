pub mod LineLemmas
pub mod Appended
