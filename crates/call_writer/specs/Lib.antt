pub mod Json
pub mod Marks
pub mod Lines
pub mod Dot
