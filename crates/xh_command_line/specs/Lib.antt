pub mod Asked
pub mod Unasked
pub mod Status
pub mod inner
