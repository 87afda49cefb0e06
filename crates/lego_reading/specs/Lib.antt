pub mod Written
pub mod Universes
pub mod Failures
pub mod Calls
pub mod Readable
pub mod Binders
pub mod private
