pub mod Numbering
pub mod Parsing
pub mod private
