-- What the proofs of several functions use.
pub mod OpenLaws
pub mod RefreshLaws
