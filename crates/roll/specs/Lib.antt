pub mod Alike
pub mod Faults
pub mod Fields
pub mod Holdable
pub mod Limits
pub mod Marks
pub mod Read
pub mod Standing
