pub mod LeftOut
pub mod Scope
pub mod Without
pub mod Tables
pub mod Spans
pub mod Alphabet
pub mod Itself
