pub mod Steps
pub mod Paths
pub mod Parts
pub mod Bases
pub mod Alphabets
pub mod Spans
