pub mod AWorkedRun
pub mod AWorkedTick
pub mod Computing
pub mod EachNumber
pub mod LateRun
pub mod Sixteen
pub mod WorkedRunsAreRuns
pub mod WrittenOut
