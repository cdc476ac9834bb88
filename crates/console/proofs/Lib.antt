pub mod Gathering
mod Bearing
mod Digits
mod Folding
mod Places
mod Telling
mod Wording
