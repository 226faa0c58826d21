pub mod PlayLemmas
pub mod WaysLemmas
pub mod KeyLemmas
pub mod PackedLemmas
pub mod StepLemmas
