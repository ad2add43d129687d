-- The stream of blocks, and what the functions leave in buffers and tables.
pub mod Blocks
pub mod Buffers
pub mod Stream
