pub mod Lines
pub mod Way
pub mod Direct
pub mod Leaky
pub mod Passing
pub mod WayLemmas
