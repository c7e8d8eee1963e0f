pub mod World
pub mod Waiting
pub mod Cards
pub mod Rounds
pub mod Acts
pub mod Words
