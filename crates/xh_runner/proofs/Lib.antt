mod Common
mod Plays
mod Wholes
pub mod Workers
