pub mod Keys
pub mod Lead
pub mod Names
pub mod Ranks
pub mod Seats
