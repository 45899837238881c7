pub mod Answers
pub mod Delivery
pub mod Files
pub mod Making
pub mod Status
