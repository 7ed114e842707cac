mod NameLists
mod LeadOrder
pub mod Examples
mod KeyLists
mod Ranking
