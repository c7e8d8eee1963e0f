pub mod Acting
pub mod Playing
