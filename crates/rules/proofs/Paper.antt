pub mod AsAlgorithm
pub mod BySender
pub mod HeardSoFar
pub mod HistoryInARun
