pub mod Nodata
pub mod Numbers
pub mod Steps
pub mod FromZero
pub mod NearestRoot
pub mod Environment
