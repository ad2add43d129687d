pub mod PartyLaws
