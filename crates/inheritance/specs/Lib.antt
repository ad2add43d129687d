pub mod Above
pub mod Checked
pub mod Entry
pub mod Lookup
pub mod Step
