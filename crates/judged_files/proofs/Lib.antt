pub mod ScriptTexts
pub mod JudgeFacts
pub mod ScriptFacts
pub mod UserFacts
pub mod Judgements
pub mod ReadyFacts
pub mod RuleFileFacts
mod RecordFacts
