pub mod Answers
pub mod Bases
pub mod Desk
pub mod Lines
pub mod Views
