pub mod ArrayFields
pub mod Fields
pub mod FrameCuts
pub mod GoodSearch
pub mod NodeHash
pub mod PlainSearch
pub mod Search
pub mod Stack
