-- The laws of this crate, for its own proofs and for those of the crates above it.
pub mod Bounds
pub mod Edges
pub mod Storing
pub mod NeighbourLists
pub mod NeighbourArray
pub mod Interior
pub mod RingContents
pub mod Decided
