-- From the plan to the table.
pub mod Placing
pub mod Voting
pub mod BenchIsRun
pub mod Deciding
pub mod LostBallots
pub mod TheTable
