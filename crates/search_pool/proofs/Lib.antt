mod TurnBeginning
mod TurnClosing
mod TurnGiving
mod TurnIdling
mod TurnLaws
mod TurnReleasing
mod TurnRooting
mod TurnSuspending
pub mod DrivingJoins
pub mod EdgesKept
