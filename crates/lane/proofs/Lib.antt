-- The laws that the proof of the line controllers' find rests on.
pub mod PackedLaws
