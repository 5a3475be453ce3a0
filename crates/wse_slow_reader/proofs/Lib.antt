pub mod LastLemmas
pub mod OptionLemmas
pub mod RecordLemmas
pub mod SplitLemmas
pub mod DraftLemmas
pub mod GivenLemmas
pub mod BodyLemmas
pub mod ReadLemmas
