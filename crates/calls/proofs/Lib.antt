-- The laws of this crate, for its own proofs and for those of the crates above it.
pub mod Turns
pub mod Scans
pub mod RowScans
pub mod Measured
pub mod Shapes
pub mod Cases
pub mod Decided
pub mod Untouched
pub mod Promises
