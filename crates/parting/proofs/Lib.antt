-- What the proofs of several functions use.
pub mod PartingLaws
pub mod PartyLaws
