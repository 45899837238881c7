pub mod Kept
pub mod Longer
pub mod Listing
pub mod Accepting
pub mod Ordering
pub mod Sorting
pub mod Loops
pub mod Stepping
