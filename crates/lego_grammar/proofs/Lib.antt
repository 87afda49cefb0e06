pub mod Transitions
pub mod Complete
pub mod Nesting
pub mod Sound
mod SoundEnds
pub mod SoundSteps
pub mod Finish
pub mod Moving
pub mod Unique
pub mod Ends
pub mod Beginnings
pub mod Refusals
pub mod ReadOnce
pub mod ReadingRefusals
pub mod Lexing
mod ExampleTexts
mod DenotedTexts
pub mod Proper
