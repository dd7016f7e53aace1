pub mod ByBytes
pub mod Handles
pub mod Lending
pub mod Plans
pub mod Runs
pub mod Teams
pub mod Values
