pub mod Continue
pub mod Settings
pub mod Words
