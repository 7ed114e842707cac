pub mod Examples
mod OneHead
mod OneReport
mod NumberedLines
