-- The laws of this crate, for its own proofs and for those of the crates above it.
pub mod Lengths
pub mod Fetching
pub mod Sending
pub mod Choosing
pub mod Decided
pub mod Reading
pub mod Cases
