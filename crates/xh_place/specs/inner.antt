-- What the private steps go by. No exported call's promise needs it to be read.
pub mod Lots
pub mod Lists
pub mod TwoRecords
pub mod Draining
pub mod Answers
