pub mod RuleEdit
