pub mod Examples
pub mod Coding
pub mod Nodes
pub mod OnceCounts
pub mod KeptCounts
pub mod Beside
pub mod Gathering
pub mod Room
pub mod Roots
pub mod Books
pub mod Waking
pub mod FewGroups
pub mod LevelSteps
pub mod MemberSteps
pub mod RaisedSteps
mod ReleaseSteps
