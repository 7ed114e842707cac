pub mod Examples
pub mod Lookups
pub mod Changes
pub mod OpeningOps
