pub mod Entries
pub mod Binders
pub mod Locals
pub mod Causes
pub mod Failures
pub mod Inferred
pub mod Calls
pub mod private
