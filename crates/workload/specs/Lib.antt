pub mod Generator
pub mod Summaries
pub mod Generation
