pub mod Counted
pub mod Numbered
pub mod NumberedCode
pub mod Parts
