pub mod Last
pub mod ChangeCode
