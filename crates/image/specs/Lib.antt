pub mod Faults
pub mod Head
pub mod Layout
