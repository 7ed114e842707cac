pub mod Edges
pub mod FlatLists
pub mod Spread
