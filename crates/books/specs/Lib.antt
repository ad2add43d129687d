pub mod Ask
pub mod Lent
