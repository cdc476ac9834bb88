pub mod Images
pub mod Numbers
