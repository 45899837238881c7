pub mod Output
pub mod InputLines
pub mod InputBuffer
pub mod Writing
pub mod Lacking
pub mod Noting
