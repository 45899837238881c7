pub mod Rules
pub mod Trails
pub mod Splits
pub mod Steps
pub mod Settling
pub mod Places
pub mod Dropping
pub mod Complete
