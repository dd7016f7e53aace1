pub mod Plays
pub mod Workers
pub mod Runs
pub mod inner
