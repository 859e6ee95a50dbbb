pub mod Decisions
pub mod Ledger
pub mod OneEvent
pub mod Phases
pub mod Proposed
pub mod Runs
pub mod TheBit
