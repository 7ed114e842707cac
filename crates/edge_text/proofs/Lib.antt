pub mod Added
mod CalleeSteps
pub mod Examples
mod FirstFaults
mod Graphs
mod LineParts
mod LongNames
mod OneGraph
mod RankedEdges
pub mod Rests
mod SomeGraph
mod TextParts
mod WordParts
mod WordPlaces
