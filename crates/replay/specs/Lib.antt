pub mod Words
pub mod Reading
pub mod Search
pub mod Buffers
pub mod Stored
