pub mod Directives
pub mod States
pub mod Plans
pub mod Runs
pub mod Turns
pub mod Everywhere
pub mod Stops
pub mod OneStep
