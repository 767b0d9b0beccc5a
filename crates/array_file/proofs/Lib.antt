pub mod Rules
pub mod Numbers
pub mod Layouts
pub mod Headers
pub mod Told
mod Writings
mod Files
