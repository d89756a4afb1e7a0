pub mod LiveState
