pub mod Walk
pub mod Tops
pub mod Heights
