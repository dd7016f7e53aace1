mod Common
pub mod Deeds
mod History
pub mod After
pub mod Elements
pub mod Keeps
pub mod Ages
pub mod Lists
pub mod Distinct
pub mod Cuts
pub mod Opening
pub mod Seating
pub mod Numbered
pub mod Lent
pub mod Looks
pub mod Ended
pub mod OneVault
