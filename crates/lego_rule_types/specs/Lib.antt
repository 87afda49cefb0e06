pub mod Used
pub mod Failures
pub mod Calls
pub mod private
