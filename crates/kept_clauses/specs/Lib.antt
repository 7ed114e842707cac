pub mod Plain
pub mod Words
pub mod Views
pub mod BodyGoals
