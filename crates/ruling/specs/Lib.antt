pub mod Ready
pub mod Ruling
