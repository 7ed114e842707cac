mod Padded
mod ClassTable
pub mod Characters
pub mod PlaceSteps
pub mod Classes
pub mod Numerals
pub mod Parts
pub mod Families
pub mod Once
pub mod Pieces
pub mod OneToken
pub mod Between
pub mod Faults
pub mod RowLemmas
pub mod Lookups
pub mod Longest
pub mod NumberEnds
pub mod Boundaries
pub mod Spelled
pub mod Readings
pub mod Names
