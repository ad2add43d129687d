-- What the proof of `replace` uses.
pub mod ReplaceLaws
