pub mod ScriptSettles
pub mod ValuesOnce
pub mod StatementsOnce
pub mod WithinOnce
pub mod SectionsOnce
pub mod ScriptTexts
