pub mod Together
pub mod Traces
pub mod Alike
pub mod Widening
