-- The lemmas of this crate.
mod Cuts
mod Pairs
mod Runs
mod Taken
mod Worlds
