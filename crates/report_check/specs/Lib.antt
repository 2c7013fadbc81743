pub mod Agrees
pub mod Check
pub mod Fails
