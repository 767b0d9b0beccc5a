pub mod Lines
pub mod InfoText
pub mod Says
