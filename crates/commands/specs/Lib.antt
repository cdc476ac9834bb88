pub mod Complaints
pub mod Hex
pub mod Meanings
pub mod Readings
pub mod Verbs
