-- Decimal numbers, lines that differ only in their numbers, the forms that are such lines, and the calls that they ask for.
pub mod Bytes
pub mod Decimal
pub mod Forms
pub mod Pattern
pub mod Requests
