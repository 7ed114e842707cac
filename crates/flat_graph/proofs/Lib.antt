mod Built
mod Degrees
pub mod Examples
mod ListLaws
mod Placing
mod Sums
