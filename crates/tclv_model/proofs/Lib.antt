pub mod MessageLemmas
pub mod CodeLemmas
