pub mod Parts
pub mod LineLaws
pub mod Reading
pub mod Giving
pub mod Spending
pub mod Progress
