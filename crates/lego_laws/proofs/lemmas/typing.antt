-- Lemmas for the laws of typing.
pub mod Renaming
pub mod Inversion
pub mod TypedSteps
pub mod Rules
pub mod Entries
pub mod TypingLaws
pub mod Generalised
