pub mod Values
pub mod Settling
pub mod ApartPlaces
pub mod ValueLaws
pub mod ValueRooms
pub mod LiftedValues
pub mod ValueExamples
pub mod StoreBytes
