-- Types that hold others, as the prover reads them.
pub mod boxed
pub mod sequence
