pub mod Ends
pub mod Plain
pub mod PlainLines
pub mod ReplyFacts
pub mod TextFacts
