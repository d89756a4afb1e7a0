pub mod KeptFrames
