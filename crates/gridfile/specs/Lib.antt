pub mod Fields
pub mod Request
pub mod Contents
pub mod Lookups
pub mod Answers
