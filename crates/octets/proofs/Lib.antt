pub mod Numbers
pub mod Telling
pub mod Filled
