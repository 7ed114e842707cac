pub mod Source
pub mod MemorySource
pub mod Lines
pub mod End
pub mod Run
pub mod Keeps
