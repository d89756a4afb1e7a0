pub mod LayerResults
