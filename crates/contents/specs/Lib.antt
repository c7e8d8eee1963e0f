pub mod Ranges
pub mod Reading
pub mod Kinds
pub mod Events
pub mod Effects
pub mod EffectLaws
pub mod Readings
pub mod EventLaws
