pub mod Levels
pub mod Counting
pub mod Touching
pub mod PathBlocks
pub mod Vectors
