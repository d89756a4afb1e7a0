pub mod SumCounting
