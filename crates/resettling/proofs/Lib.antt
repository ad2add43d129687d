-- What the proofs of several functions use.
pub mod KnownLaws
pub mod ResetLaws
pub mod ResettleLaws
pub mod StopLaws
