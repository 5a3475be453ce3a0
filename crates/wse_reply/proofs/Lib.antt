pub mod FloatLemmas
pub mod ReplyLemmas
