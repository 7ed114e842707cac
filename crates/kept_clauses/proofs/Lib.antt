pub mod NameNumbers
pub mod Silent
pub mod Bodies
pub mod WordLemmas
pub mod PlainAdds
pub mod KeptClauses
pub mod FreeNames
