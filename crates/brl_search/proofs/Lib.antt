pub mod Diverging
pub mod OfDues
pub mod Parts
pub mod Smallest
pub mod TableSearch
pub mod RuleClashes
mod WholeList
mod KnownClashes
pub mod Used
pub mod FoundFor
