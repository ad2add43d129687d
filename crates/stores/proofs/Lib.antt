-- The laws of a book with its store.
pub mod NameLaws
pub mod ReturnLaws
pub mod SavedLaws
pub mod StoreLaws
pub mod StoredBookLaws
pub mod StoredNeverLaws
pub mod StoredTallyLaws
pub mod TallyFree
