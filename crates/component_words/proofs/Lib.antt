pub mod FirstParts
pub mod GoesOn
pub mod Once
pub mod Taken
