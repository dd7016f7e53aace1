pub mod Common
pub mod Back
pub mod Recorded
pub mod Lent
pub mod Compared
pub mod Calling
