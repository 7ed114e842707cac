pub mod ClassLaws
mod ClassSteps
pub mod Examples
pub mod GraphClasses
pub mod GraphLaws
mod HeightLeads
mod HeightSteps
pub mod Increasing
mod Marks
mod PlaceSteps
mod RankLaws
pub mod ReachLaws
mod Rows
mod StampSteps
pub mod Transport
pub mod Unique
