pub mod SpotOrder
pub mod ClauseLemmas
pub mod EndOrder
pub mod ExtentLemmas
pub mod MembershipLemmas
pub mod ReachedLemmas
pub mod OrderLemmas
pub mod MarkLemmas
