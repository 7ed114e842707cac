mod Examples
-- lists of roots
pub mod Roots
pub mod RootLists
-- words, and what they look like
pub mod WordRules
pub mod WordClasses
pub mod HaveChars
-- the walk over the words: word by word, as uses of arguments, and back to parts
pub mod WalkSteps
pub mod WalkGoes
pub mod WalkSpells
pub mod WalkRows
-- the whole command line
pub mod ClapWords
pub mod GivenValues
pub mod Views
pub mod Readings
-- settings
pub mod KeptNames
pub mod OneSettings
-- limits
pub mod RootArities
pub mod Within
pub mod MadeLengths
