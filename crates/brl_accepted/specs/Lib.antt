pub mod Pairs
pub mod Sets
pub mod Counting
pub mod FaultText
pub mod Reading
pub mod Words
pub mod Writing
