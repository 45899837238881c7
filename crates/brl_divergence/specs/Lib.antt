pub mod Listed
pub mod ListingView
pub mod Answers
pub mod Expanded
pub mod Found
pub mod Working
