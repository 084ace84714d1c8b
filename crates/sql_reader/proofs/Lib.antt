-- The lemmas of this crate.
pub mod Tables
pub mod CompleteQuery
pub mod LocalQuery
pub mod SoundQuery
pub mod BegunQuery
pub mod Unexpected
pub mod Answering
pub mod TextLengths
pub mod FittingLiterals
