pub mod Defined
pub mod DueOrder
pub mod Sorting
pub mod Ordered
pub mod Pairwise
pub mod Kept
