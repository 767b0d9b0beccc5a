pub mod Packing
pub mod Endings
pub mod Asking
pub mod Problems
pub mod Statuses
