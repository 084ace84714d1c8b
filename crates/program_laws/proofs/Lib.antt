-- The lemmas of this crate.
mod LoadedFiles
mod OneJob
mod Program
