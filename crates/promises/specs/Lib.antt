pub mod Books
pub mod Calls
pub mod Lookups
pub mod Text
