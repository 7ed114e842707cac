-- cut
pub mod Firsts
pub mod Runs
pub mod Escapes
pub mod QuotedItems
pub mod NumberItems
pub mod LayoutItems
pub mod Spellings
pub mod Cuts
-- clause
mod NextWords
mod AnsweredClause
-- file
pub mod Turns
pub mod Causes
pub mod Modules
pub mod TextCauses
pub mod Joined
pub mod Grouped
pub mod Utf8Cases
pub mod FirstPart
pub mod EachText
pub mod Refused
pub mod OwnModules
-- load
pub mod FaultPlaces
pub mod FoundAt
pub mod NextNames
pub mod WaveCut
pub mod Waves
pub mod Given
pub mod AllFaults
pub mod AllLoaded
pub mod LoadOrFaults
-- program
pub mod Orders
pub mod Placed
mod ImportFaults
mod Mets
mod FaultLists
mod RootLists
-- schedule
pub mod Choices
pub mod CondensedEdges
pub mod Heights
pub mod SearchCuts
pub mod Carrying
pub mod Waking
pub mod Sorting
pub mod Turning
pub mod Actors
pub mod Endings
-- report
pub mod Decisions
mod ModuleLists
mod Rings
pub mod Reports
-- word
mod Known
mod Numbers
mod Lists
mod Together
mod AnsweredWords
mod Utf8Values
mod ReadWords
-- answer
mod NamedRoots
mod PartBytes
mod ReportBytes
mod LoadedEnds
mod GroupEnds
mod Answers
-- told
mod AskedWords
mod GroupPlaces
mod MetCounts
mod ClauseTotals
mod PredicatePlaces
mod CallCounts
mod MemoryLists
mod KeptCalls
mod OrderedClauses
mod CallTables
mod NodeMarks
mod OneTable
mod PlacedDirectives
mod ToldBytes
mod ToldEnds
mod SameGroups
mod OneTold
mod OneToldEnd
