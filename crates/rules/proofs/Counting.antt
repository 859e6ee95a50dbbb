pub mod Below
pub mod Counting
pub mod Lowest
pub mod Sets
pub mod Truth
