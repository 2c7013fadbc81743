pub mod AnnounceLemmas
pub mod DueLemmas
pub mod WaveLemmas
