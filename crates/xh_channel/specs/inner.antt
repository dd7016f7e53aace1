-- What the private steps go by. No exported call's promise needs it to be read.
pub mod ClosedWords
pub mod Ends
pub mod FreeNumbers
pub mod LineRule
pub mod Waiting
