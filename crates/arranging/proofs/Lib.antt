-- What the proofs of several functions use.
pub mod Arranging
pub mod Climbing
pub mod Gathering
pub mod Placing
