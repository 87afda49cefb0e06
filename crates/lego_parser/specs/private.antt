pub mod Trees
pub mod Frames
pub mod Stack
pub mod Scanning
pub mod Interning
