pub mod Common
pub mod Collected
pub mod Audited
pub mod Ending
pub mod Flying
pub mod Owning
pub mod FlightLines
pub mod LedgerLines
