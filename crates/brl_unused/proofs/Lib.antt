pub mod Marked
pub mod Exploring
