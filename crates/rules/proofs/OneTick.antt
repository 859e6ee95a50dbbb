pub mod Leader
pub mod Senders
pub mod Soundness
pub mod Starts
