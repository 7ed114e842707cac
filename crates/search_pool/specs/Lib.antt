pub mod Driving
pub mod Edges
pub mod Worker
pub mod Working
