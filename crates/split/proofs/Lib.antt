pub mod Accepting
pub mod Blanks
pub mod Fairness
pub mod Orders
pub mod Promises
pub mod Quotients
pub mod Reckoning
