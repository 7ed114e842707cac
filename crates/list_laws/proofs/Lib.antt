-- one list in a total order
pub mod OneOrder
-- how often a node stands in lists
pub mod Counting
pub mod Standing
-- two lists side by side
pub mod Zips
-- members, and what functions give of them
pub mod Members
-- numbers that are sorted, each once
pub mod SortedOnce
