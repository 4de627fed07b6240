-- The laws of this crate: what its proofs cite, demand 3, that each promise decides the call, and what is refused without a cap.
pub mod Searching
pub mod Demand
pub mod Decided
pub mod Uncapped
