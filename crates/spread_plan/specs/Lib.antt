pub mod Moves
pub mod Stages
pub mod Plans
pub mod States
