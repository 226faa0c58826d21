pub mod Line
pub mod Side
pub mod LineFault
pub mod Reading
pub mod LineLaws
