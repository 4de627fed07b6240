pub mod Numbers
pub mod Sizes
pub mod Cells
pub mod Distances
pub mod Values
pub mod Sums
pub mod Paths
pub mod Computing
