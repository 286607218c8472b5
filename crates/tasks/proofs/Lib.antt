pub mod Runs
pub mod Standing
pub mod SubtaskRuns
pub mod SubtaskStanding
