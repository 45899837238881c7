pub mod Failure
pub mod Raised
