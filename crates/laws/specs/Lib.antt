pub mod Leads
pub mod Steps
pub mod Endless
pub mod Words
pub mod Promises
pub mod Runs
pub mod Calls
pub mod Laws
