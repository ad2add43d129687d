pub mod Deciding
pub mod Row
