pub mod PlainFacts
pub mod PlainProgram
