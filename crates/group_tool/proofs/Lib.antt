pub mod Examples
mod OneCircuits
mod OneParts
pub mod OneReports
pub mod OneFileLemmas
pub mod KindLemmas
pub mod PartLemmas
pub mod GroupLemmas
mod SharedCalls
