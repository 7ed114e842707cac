pub mod Cycles
pub mod Json
pub mod JsonLines
pub mod Report
