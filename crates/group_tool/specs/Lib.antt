pub mod Parts
pub mod Driving
pub mod Asked
pub mod Groups
pub mod OneFile
