mod StandLemmas
mod GatherLemmas
mod WordLemmas
mod ToldLemmas
mod ImageLemmas
pub mod StoodLemmas
pub mod CallerLemmas
