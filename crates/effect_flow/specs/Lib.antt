pub mod Carriers
pub mod Flows
pub mod Heights
pub mod Kinds
pub mod Seen
