-- The laws of the edits of a list, one by one, and of the loop.
pub mod ListingLaws
pub mod RunLaws
