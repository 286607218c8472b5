pub mod History
pub mod Laws
pub mod Runs
pub mod SubtaskHistory
pub mod Subtasks
pub mod Tasks
pub mod Views
