pub mod SettlesBelow
pub mod ExpressionSettles
pub mod RuleSettles
pub mod OneTree
pub mod RuleTexts
