pub mod RuleTexts
pub mod Lines
