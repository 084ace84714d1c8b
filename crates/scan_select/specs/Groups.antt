-- Row groups that come one after the other.
use Rattle.std.specs.Prelude.{◌≡◌, ◌≢◌, ℕ, Bool, true, false, List, Option, Some, None, Result, Ok, Err}
use Rattle.blocks.specs.Block.{Block}
use Rattle.fragment_file.specs.declared.fault.FileFault.{FileFault}
use Rattle.fragment_file.specs.declared.fault.FileFault.TheVariants.{Memory, Device}
use Rattle.fragment_file.specs.View.{rows_of}
use Rattle.group_reader.specs.Coming.{Coming, with_group}
use Rattle.group_reader.specs.Reader.{only}

-- a row group came: whatever may be to come behind it, may have been to come with it in front. Or the end came: it may have
-- been that none was to come, and nothing is wrong with the end; or that the fault that was told was to come in place of a
-- row group, unless memory was wanting or the reader failed
abbrev pub GroupsGoOn : (Coming → Type 0) → (Coming → Type 0) → Option (List Block) → Result Bool FileFault → Type 0
GroupsGoOn was still current (Ok true) = (group : List Block) × ((rest : Coming) → still rest → was (with_group group rest)) × (current ≡ Some group)
GroupsGoOn was still current (Ok false) = was (only None) × still (only None) × (current ≡ None)
GroupsGoOn was still current (Err e) = e ≢ Memory → e ≢ Device → was (only (Some e))

-- how many rows the row group has that stands now
abbrev pub current_rows : Option (List Block) → ℕ
current_rows None = 0
current_rows (Some group) = rows_of group
