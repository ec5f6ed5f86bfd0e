pub mod Reading
pub mod theory
