pub mod StreamSteps
pub mod StreamMarks
pub mod FamilyMarks
pub mod FieldTests
