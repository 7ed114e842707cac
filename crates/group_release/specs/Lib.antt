pub mod Book
pub mod BookFields
pub mod Coding
pub mod Level
pub mod Levels
pub mod Outline
pub mod Released
pub mod ReleasedFields
