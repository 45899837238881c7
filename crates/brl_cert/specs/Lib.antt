pub mod Reading
pub mod Lines
pub mod Window
pub mod Dues
pub mod Valid
pub mod Fields
