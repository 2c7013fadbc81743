mod Calm
mod PoolAny
mod Large
mod BootedLarge
mod EndsLarge
mod Outside
mod Lasts
pub mod SavedRuns
