pub mod Nets
pub mod Steps
pub mod Waiting
pub mod Buffers
pub mod First
pub mod Begin
pub mod Loop
pub mod Promise
