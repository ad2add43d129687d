-- What the proofs of several functions use, here and in the calls.
pub mod AskLaws
