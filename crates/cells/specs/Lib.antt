pub mod Counting
pub mod Neighbours
pub mod Interior
pub mod Storing
pub mod Ring
