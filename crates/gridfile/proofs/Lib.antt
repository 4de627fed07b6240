-- The laws of this crate, for its own proofs and for those of the crates above it.
pub mod Choices
pub mod SearchNumbers
pub mod Bytes
pub mod Places
pub mod Heads
pub mod Steps
pub mod Stores
pub mod ReadBack
pub mod Requests
pub mod LongFiles
pub mod Cases
