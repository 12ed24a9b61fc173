pub mod TraceText
pub mod TextLaws
