pub mod Graphs
pub mod Limits
pub mod Refusals
pub mod private
