pub mod Views
pub mod Outside
pub mod Memory
