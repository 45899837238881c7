pub mod WalkLemmas
pub mod UnknownChars
pub mod StepLoop
pub mod StepCells
pub mod InfoLists
pub mod Sides
