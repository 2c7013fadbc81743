pub mod BootLemmas
