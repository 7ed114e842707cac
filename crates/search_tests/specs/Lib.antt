pub mod Graphs
pub mod Led
