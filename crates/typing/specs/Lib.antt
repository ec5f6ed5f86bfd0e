pub mod Envs
pub mod Walks
pub mod Bounds
pub mod Check
pub mod Checked
pub mod Before
pub mod Slots
