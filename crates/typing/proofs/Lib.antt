pub mod Packed
pub mod Turns
pub mod Ready
