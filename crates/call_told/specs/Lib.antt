pub mod Wanted
pub mod Condensed
pub mod EdgeLists
pub mod Told
pub mod Stretches
