mod Climbing
mod Exists
mod GoesRound
mod Growing
mod InnerCalls
mod Leads
mod ListLaws
mod Meeting
pub mod OneLeast
mod PathLaws
pub mod PathNodes
mod Searching
mod Returns
mod Sorted
mod StaysInside
pub mod Transport
