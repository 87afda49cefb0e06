pub mod Scanned
pub mod Spelled
pub mod StartBefore
