pub mod Events
pub mod Machine
pub mod MachineFields
pub mod Runs
pub mod State
pub mod Schedule
pub mod Work
