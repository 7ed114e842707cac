pub mod EdgeGraph
pub mod Faults
pub mod Lines
pub mod Ranked
pub mod Read
pub mod Readings
pub mod Words
