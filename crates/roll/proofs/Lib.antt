pub mod Enrolling
pub mod Finding
pub mod Members
pub mod Places
