pub mod Cause
pub mod Lists
pub mod Items
pub mod Clauses
pub mod Kept
pub mod TextFault
pub mod Offsets
pub mod Pieces
