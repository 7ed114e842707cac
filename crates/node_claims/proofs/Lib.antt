mod Calls
mod Claiming
mod Failure
mod Once
mod Passes
mod Turning
mod Turns
mod Words
