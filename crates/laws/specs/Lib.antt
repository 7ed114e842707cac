-- file
pub mod Turns
pub mod Causes
pub mod FileLayers
-- load
pub mod TextsAreTold
-- answer
pub mod AnswerLayers
