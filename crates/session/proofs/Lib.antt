pub mod Cases
pub mod NeverLaws
pub mod PartLaws
pub mod ProgramLaws
pub mod SessionLaws
pub mod TurnLaws
