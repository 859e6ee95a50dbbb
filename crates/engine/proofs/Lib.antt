pub mod Only
pub mod Listening
pub mod Growing
pub mod Bounds
pub mod Refusing
pub mod Looking
pub mod Barred
pub mod Gathering
mod Derived
pub mod Fives
