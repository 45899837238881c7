pub mod Traces
pub mod Exchanges
