pub mod Given
pub mod Gives
