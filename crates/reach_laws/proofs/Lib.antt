mod Leaving
mod growing
mod SmallValues
mod ScriptsTyped
mod StartStores
mod Starting
mod Feeding
mod Reaching
mod Told
mod ScriptsRead
mod free
mod OneRun
pub mod known
