-- What the functions' proofs share.
pub mod Spelling
