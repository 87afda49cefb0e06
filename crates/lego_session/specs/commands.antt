pub mod Bindings
pub mod Show
pub mod Undo
pub mod Forget
pub mod Ctxt
