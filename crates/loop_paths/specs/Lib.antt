pub mod Circuits
pub mod Found
pub mod Grown
pub mod Inner
pub mod Lists
pub mod Paths
