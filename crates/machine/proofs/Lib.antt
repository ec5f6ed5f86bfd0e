pub mod Words
pub mod Planning
pub mod Going
pub mod Stepping
pub mod Moving
