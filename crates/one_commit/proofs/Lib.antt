pub mod Heads
pub mod Single
pub mod Alike
pub mod Edits
pub mod Reaching
pub mod Prefixes
pub mod Finding
pub mod Paying
