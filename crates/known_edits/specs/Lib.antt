pub mod ChangeAsked
