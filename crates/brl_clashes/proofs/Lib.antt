mod Earlier
pub mod Verdicts
mod KindsAddUp
mod Lines
mod Places
mod Listed
mod Shown
pub mod ByPairs
mod Found
pub mod Showings
