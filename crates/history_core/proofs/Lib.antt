pub mod BehindLemmas
pub mod MergeLemmas
pub mod OnceLemmas
pub mod PourLemmas
pub mod RisingLemmas
