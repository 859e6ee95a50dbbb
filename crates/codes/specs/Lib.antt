pub mod Coded
pub mod CodedNouns
