mod LaidOut
pub mod HeadNumbers
pub mod LineOrder
pub mod OneHead
pub mod OneLine
pub mod Printable
pub mod PutFive
mod Ranges
