pub mod Kinds
pub mod Judging
pub mod Excusing
