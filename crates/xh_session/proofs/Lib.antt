pub mod BlockNames
pub mod Common
pub mod Ends
pub mod Plans
