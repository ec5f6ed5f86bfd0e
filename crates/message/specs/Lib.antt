pub mod Shown
pub mod OneAnswer
