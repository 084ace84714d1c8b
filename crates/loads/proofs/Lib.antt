-- The lemmas of this crate.
mod Finished
mod HandedOn
mod LoadedColumns
mod NotPut
mod Planned
mod Printed
mod Refusals
mod Tried
mod Unloaded
mod WrittenFiles
