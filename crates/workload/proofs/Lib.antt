pub mod Growing
pub mod Fitting
pub mod Narrow
pub mod Runs
pub mod Beginning
pub mod Vectors
