pub mod Only
pub mod Entries
