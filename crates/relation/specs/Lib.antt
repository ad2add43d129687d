pub mod Bit
pub mod Closed
pub mod First
pub mod Taken
pub mod Turned
