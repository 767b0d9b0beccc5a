pub mod Comparing
pub mod Solutions
pub mod Names
pub mod Terms
