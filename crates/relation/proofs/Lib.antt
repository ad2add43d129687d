-- What the proofs of several functions use.
pub mod BitLaws
pub mod Bools
pub mod Full
pub mod Gathering
pub mod Lowest
pub mod Octets
pub mod Stores
pub mod Subsets
pub mod Taking
pub mod Turning
pub mod Walking
pub mod Warshall
pub mod Zeros
