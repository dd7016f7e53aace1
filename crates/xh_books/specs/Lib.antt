pub mod Ledgers
pub mod Flight
pub mod Closing
pub mod inner
