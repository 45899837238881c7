pub mod Console
pub mod Slices
