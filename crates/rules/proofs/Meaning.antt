pub mod Accepted
pub mod Answers
pub mod Given
pub mod Meanings
pub mod OneAnswer
