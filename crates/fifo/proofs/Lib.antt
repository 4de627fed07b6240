-- The laws of the machine, for the crates above.
pub mod Nets
pub mod Cases
pub mod Lists
pub mod Ranges
pub mod Induction
pub mod Runs
pub mod Entries
pub mod Order
pub mod Sound
pub mod Ends
pub mod Labels
pub mod LeastSums
pub mod Search
pub mod Simulation
pub mod Instance
