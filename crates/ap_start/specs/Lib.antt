pub mod Exits
pub mod Announced
pub mod Text
pub mod Wave
pub mod Due
