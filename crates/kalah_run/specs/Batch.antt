pub mod Answering
pub mod AtWork
pub mod Leaving
pub mod OrderedOutput
pub mod Running
