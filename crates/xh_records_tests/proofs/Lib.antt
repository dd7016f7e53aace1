pub mod OneLot
