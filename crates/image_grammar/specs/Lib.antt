pub mod Told
pub mod Words
pub mod Forms
pub mod Kept
pub mod Grammar
pub mod End
pub mod Image
