pub mod Ends
pub mod Laws
pub mod Plans
pub mod ReadRuns
pub mod ReadFits
pub mod ReadWorlds
pub mod Examples
