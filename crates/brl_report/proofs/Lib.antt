mod Places
mod Known
mod Common
mod Tallies
mod StepPlaces
mod LineLemmas
pub mod Mapped
