-- A folder for each file of laws.
pub mod reduction
pub mod typing
pub mod inference
pub mod principal
pub mod comparison
pub mod constants
pub mod examples
