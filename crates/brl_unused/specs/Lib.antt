pub mod Graph
pub mod Marking
pub mod Taken
pub mod Exploring
