pub mod Listing
pub mod Adjacent
pub mod Clearing
