pub mod TableLemmas
pub mod BlockLemmas
pub mod SoFarLemmas
pub mod SoundLemmas
pub mod ReadLemmas
pub mod DigitLemmas
pub mod LaneLemmas
