pub mod Words
pub mod Alike
pub mod Places
pub mod Flow
pub mod Functions
pub mod Code
pub mod Stands
pub mod Whole
