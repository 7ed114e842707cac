pub mod Copying
pub mod Driving
pub mod Feeder
pub mod Leveling
pub mod Line
pub mod Ordered
