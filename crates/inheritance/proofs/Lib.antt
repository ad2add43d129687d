-- The laws of inheritance, in the order in which they build on each other.
pub mod Bools
pub mod EntryLaws
pub mod GivenLaws
pub mod AboveLaws
pub mod MeetLaws
pub mod LeftLaws
pub mod DecideLaws
pub mod NearLaws
pub mod LookupLaws
pub mod StepLaws
pub mod TouchLaws
