pub mod Ballots
pub mod Encoding
pub mod FromC
pub mod Records
pub mod RecordsOfAVote
