pub mod After
pub mod Checks
pub mod Faults
pub mod Holdings
pub mod Model
pub mod Opening
