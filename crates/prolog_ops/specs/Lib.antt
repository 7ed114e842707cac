pub mod ByName
pub mod Table
