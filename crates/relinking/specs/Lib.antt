pub mod Relinked
