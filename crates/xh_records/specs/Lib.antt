pub mod Order
pub mod Encoding
pub mod After
pub mod History
pub mod Deeds
pub mod Showing
pub mod Seats
pub mod inner
