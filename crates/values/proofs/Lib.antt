-- The laws of this crate: what its proofs cite, and what follows from the promise.
pub mod Searching
pub mod Demand
pub mod Decided
