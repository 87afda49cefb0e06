pub mod Agreement
pub mod Holes
pub mod Pairs
pub mod Answers
pub mod Fillings
pub mod Determined
pub mod private
