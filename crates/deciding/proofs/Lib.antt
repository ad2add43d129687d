-- What the proofs of several functions use.
pub mod ApartLaws
pub mod DecidingLaws
pub mod Places
pub mod Preparing
pub mod Rows
