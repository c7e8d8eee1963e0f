pub mod Model
pub mod Over
pub mod World
pub mod Ready
pub mod Making
pub mod Restored
pub mod Reasons
pub mod Altering
