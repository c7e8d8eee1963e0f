pub mod Numbers
pub mod Check
pub mod Block
