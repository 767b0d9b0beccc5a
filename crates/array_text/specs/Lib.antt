pub mod Words
pub mod Numbers
pub mod Walk
pub mod Reads
pub mod Contents
pub mod PlainText
