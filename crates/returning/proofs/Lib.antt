-- What the proofs of several functions use.
pub mod PartLaws
pub mod ReturnLaws
