pub mod Marked
pub mod Blocks
pub mod SoFar
pub mod Draft
pub mod Digits
