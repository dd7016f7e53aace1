pub mod Common
pub mod WordLemmas
pub mod Readings
pub mod TableLemmas
pub mod Writings
