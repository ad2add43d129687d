pub mod Reruled
