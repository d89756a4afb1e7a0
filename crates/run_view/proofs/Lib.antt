mod Conditions
mod Shown
mod Finished
mod Records
mod Fronts
pub mod OneRun
mod LineTaken
mod Lining
mod NextLine
mod NoStops
pub mod Numbered
mod Oldest
mod SameItems
mod Stopping
