pub mod Canons
pub mod Calls
mod Costs
pub mod Turned
pub mod Chosen
pub mod Runs
pub mod Lowered
mod AskedTasks
mod Answering
mod Instantiation
mod Reached
mod marks
mod Beside
pub mod LiftedLayers
pub mod LiftedOver
pub mod Lending
pub mod Taking
pub mod Moved
pub mod Ledgers
pub mod Uses
pub mod Liftings
pub mod Elements
pub mod Completed
pub mod BesideElements
pub mod Copied
pub mod Transfers
pub mod Giving
pub mod Sites
pub mod OnceLifted
pub mod Borrowed
pub mod Entering
pub mod Entered
pub mod LeadsOn
pub mod Returned
pub mod PassedOn
pub mod Results
pub mod AsyncEnds
pub mod Destroyed
pub mod Destructors
pub mod SyncRests
pub mod stays
pub mod Passings
pub mod plain
pub mod Stacking
pub mod Freed
pub mod CalledOnce
pub mod Woken
pub mod Relabelled
pub mod Flows
pub mod Moves
pub mod PassedFlows
pub mod chains
pub mod OverLeads
pub mod Steps
mod AbleAlone
pub mod AbleTasks
pub mod AbleLists
pub mod CancelTaken
mod NamedCalls
pub mod keeping
pub mod Whole
pub mod lists
pub mod supplied
pub mod SuppliedWorlds
pub mod silent
pub mod well
pub mod onward
pub mod Ahead
mod LostMakes
mod LostRuns
mod LostSteps
