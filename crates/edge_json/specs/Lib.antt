pub mod Ends
pub mod Faults
pub mod Meaning
pub mod Said
