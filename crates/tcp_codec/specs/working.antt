pub mod CleaningState
