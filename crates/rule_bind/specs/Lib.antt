pub mod Functions
pub mod References
pub mod OwnNumbers
pub mod Sureness
pub mod Texts
pub mod DimensionSize
pub mod Formulas
pub mod Rules
