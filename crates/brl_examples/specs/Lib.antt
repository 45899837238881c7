pub mod Certificates
pub mod Folders
