pub mod Standing
pub mod Gathered
pub mod Stood
