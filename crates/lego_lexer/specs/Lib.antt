pub mod Bytes
pub mod Limits
pub mod Tokens
pub mod Commands
pub mod private
pub mod Cutter
pub mod Pieces
pub mod Laws
