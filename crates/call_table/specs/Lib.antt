pub mod Clauses
pub mod Marks
pub mod Memberships
pub mod Reached
pub mod Table
pub mod Directives
