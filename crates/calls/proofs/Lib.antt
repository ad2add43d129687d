-- What the proof of the dispatcher uses.
pub mod CarryLaws
