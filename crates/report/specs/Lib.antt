pub mod Status
pub mod InfoText
