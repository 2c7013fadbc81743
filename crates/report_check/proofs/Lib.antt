pub mod AgreeLemmas
pub mod CheckLemmas
pub mod OneReason
pub mod OneWaves
pub mod OneAnswer
