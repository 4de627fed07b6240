-- The laws of this crate, for its own proofs and for those of the crates above it.
pub mod Reading
pub mod Listings
pub mod Sums
pub mod Adjoining
pub mod Around
pub mod PutBack
pub mod Decided
