pub mod Lists
pub mod Making
pub mod Packing
pub mod Packs
pub mod StageLemmas
pub mod Spreads
pub mod Fewness
pub mod Coming
pub mod Steps
mod Examples
pub mod Counts
