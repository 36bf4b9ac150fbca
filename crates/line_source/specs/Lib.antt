pub mod SourceView
pub mod MemView
pub mod Lines
pub mod LineReaderView
pub mod LineStep
pub mod Filling
pub mod Progress
