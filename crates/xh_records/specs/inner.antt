-- What the private steps go by. No exported call's promise needs it to be read.
pub mod Events
pub mod Views
pub mod Steps
pub mod Tokens
pub mod Gathering
