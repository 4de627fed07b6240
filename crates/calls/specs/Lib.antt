pub mod Answer
pub mod Given
pub mod Numbered
pub mod Promise
