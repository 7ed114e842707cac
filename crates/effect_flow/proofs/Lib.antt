pub mod LeastOnes
pub mod Carried
mod Found
mod OneNode
mod ByHeight
mod Pieces
mod Stretches
mod InTurn
pub mod Known
pub mod Moved
