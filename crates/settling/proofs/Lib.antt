-- What the proofs of several functions use.
pub mod Editing
pub mod Order
pub mod WholeLaws
