-- The laws on binary32, for this crate's proofs and for those of the crates above it.
pub mod NotANumber
pub mod Spacing
pub mod Exact
pub mod ExactResults
pub mod Shapes
pub mod DistanceOrder
pub mod Rounding
pub mod Sums
pub mod Costs
pub mod NearestRoot
pub mod RootOfTwo
pub mod StepCosts
pub mod Kept
pub mod Cases
