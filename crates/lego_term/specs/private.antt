pub mod Counted
pub mod Agreement
pub mod ConstantBound
pub mod Digest
pub mod Form
pub mod Listed
pub mod TermFalls
pub mod TreeCode
