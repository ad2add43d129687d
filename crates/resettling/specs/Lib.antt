pub mod Edits
pub mod Known
pub mod Stops
