-- What the private steps go by. No exported call's promise needs it to be read.
pub mod Channeling
pub mod Checks
