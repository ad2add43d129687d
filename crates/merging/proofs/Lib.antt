-- What the proofs of several functions use.
pub mod Giving
pub mod MergeLaws
pub mod NarrowLaws
