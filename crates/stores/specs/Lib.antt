pub mod Lent
pub mod Name
pub mod Store
pub mod StoreSteps
pub mod StoredBooks
