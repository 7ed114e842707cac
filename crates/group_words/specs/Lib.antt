pub mod ClapCommand
pub mod Made
pub mod RootList
pub mod Settings
pub mod Words
