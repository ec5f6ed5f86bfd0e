pub mod Steps
pub mod Linked
pub mod Limits
pub mod Known
