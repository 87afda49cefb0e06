pub mod Reduction
pub mod private
