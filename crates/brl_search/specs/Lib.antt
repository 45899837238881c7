pub mod Found
pub mod Searched
pub mod Small
pub mod Smaller
pub mod Clashes
pub mod Used
pub mod Scoped
