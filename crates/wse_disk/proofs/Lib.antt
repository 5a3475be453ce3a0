mod LazyLemmas
pub mod Moments
pub mod AreaLemmas
pub mod ImageLemmas
mod LayLemmas
mod RunLemmas
mod EntryLemmas
mod NearLemmas
mod ReplayLemmas
mod SoundLemmas
mod PickLemmas
pub mod WritingLemmas
pub mod OrderLemmas
pub mod KeptLemmas
pub mod ToldLemmas
