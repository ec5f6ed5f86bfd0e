pub mod Format
pub mod Head
pub mod Laws
pub mod Layout
