pub mod Loops
pub mod NamedNodes
pub mod Nodes
pub mod OneNames
mod SaidAnswer
