pub mod Admission
pub mod Firsts
pub mod Fresh
pub mod Keeping
pub mod Modelling
pub mod Staking
pub mod Telling
