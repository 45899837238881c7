pub mod Judged
mod MoreAccepted
