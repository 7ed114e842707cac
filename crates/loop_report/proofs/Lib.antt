mod BareSpells
pub mod Lists
pub mod LoopsMade
pub mod Marks
pub mod ModuleCalls
pub mod ModuleNames
pub mod OneLoops
pub mod OneReport
pub mod Pieces
pub mod ProgramFiles
mod QuotedNames
mod ReadBack
mod ReportRows
pub mod ReportTexts
pub mod RingLemmas
pub mod SpelledLemmas
pub mod Texts
pub mod UserAlone
pub mod EffectLines
pub mod OneEffects
