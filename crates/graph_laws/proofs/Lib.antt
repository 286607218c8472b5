pub mod Owning
pub mod Keeping
pub mod Places
pub mod SpacesApart
mod OptionsApart
pub mod ItemsApart
pub mod GraphsApart
pub mod Bytes
pub mod DataBytes
mod ItemsRead
pub mod ModulesRead
pub mod SoundModules
pub mod Samples
mod Counting
mod Marked
mod ScriptsInRange
mod TypesStand
mod CountedMoved
mod CountedTypes
mod CountedMeanings
mod SpacesHold
mod LinkingsHold
mod CountedGraphs
mod TypesRead
mod ComponentTypes
