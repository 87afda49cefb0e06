-- Lemmas for the laws of the examples.
pub mod ExampleProofs
pub mod ShapeExample
pub mod ConstraintExample
pub mod LocalExamples
pub mod ShapeExamples
pub mod LocalShapes
pub mod WrittenFirst
