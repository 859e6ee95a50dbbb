pub mod Sections
pub mod Received
pub mod Writing
pub mod Text
pub mod Figures
