pub mod InRange
pub mod Parts
pub mod ReadBack
pub mod Reading
pub mod Spelling
pub mod Tables
