-- Laws of numbers, of patterns and of forms.
pub mod DecimalLaws
pub mod FormLaws
pub mod Matching
pub mod PatternLaws
