pub mod Only
pub mod Held
pub mod Fives
mod HighByteFirst
