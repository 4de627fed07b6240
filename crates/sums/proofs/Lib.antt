-- The laws of this crate: what its proofs cite, and what follows from the promises.
pub mod Endings
pub mod Starts
pub mod Gains
pub mod FromAmounts
pub mod TargetSums
pub mod ListedRuns
pub mod FromMaskCells
pub mod MaskRuns
pub mod WithinSums
pub mod Decided
