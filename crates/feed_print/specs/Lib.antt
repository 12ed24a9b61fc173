pub mod FeederTexts
pub mod Printed
pub mod FoundText
