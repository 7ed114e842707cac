pub mod Head
pub mod LineOrder
pub mod Lines
pub mod Reportable
