pub mod Lists
pub mod Sample
