pub mod Answers
pub mod Inputs
pub mod Searches
pub mod Starts
