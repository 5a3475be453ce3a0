pub mod AdoptLemmas
pub mod OpeningLemmas
pub mod RefusalLemmas
pub mod EarlierLemmas
pub mod CompleteLemmas
