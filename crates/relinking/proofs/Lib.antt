-- What the proofs of several functions use.
pub mod LinkingLaws
pub mod RelinkLaws
