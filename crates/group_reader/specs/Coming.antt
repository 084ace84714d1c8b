-- What is still to come of a file: row groups, and then its end, or the first thing that is wrong.
use Rattle.std.specs.Prelude.{ℕ, suc, List, [], ◌∷◌, Option, Some, None, Result, Ok, Err}
use Rattle.meaning.specs.declared.catalog.Column.{Column}
use Rattle.blocks.specs.Block.{Block}
use Rattle.wire.specs.Reading.{◌>>=◌, Read, behind_magic, bytes_at, sealed_end}
use Rattle.fragment_file.specs.declared.fault.FileFault.{FileFault}
use Rattle.fragment_file.specs.Fault.{from_wire}
use Rattle.fragment_file.specs.declared.header.Header.{Header}
use Rattle.fragment_file.specs.Fragment.{FragmentSpec, fragment_magic, group_sizes}
use Rattle.fragment_file.specs.FragmentReading.{group_at, header_at}

pub record Coming : Type 0 where
  pub groups : List (List Block)
  pub end : Option FileFault

-- why bytes don't end here with their seal
abbrev pub fault_in : {X : Type 0} → Result X FileFault → Option FileFault
fault_in (Ok x) = None
fault_in (Err e) = Some e

abbrev pub end_behind : List ℕ → Read FileFault (List ℕ) → Option FileFault
end_behind all (Ok seal) = fault_in (from_wire (sealed_end all seal.0 seal.1))
end_behind all (Err e) = Some e

abbrev pub end_at : List ℕ → List ℕ → Option FileFault
end_at all rest = end_behind all (from_wire (bytes_at 32 rest))

abbrev pub with_group : List Block → Coming → Coming
with_group g c = record { groups = g ∷ c.groups; end = c.end }

abbrev pub behind : Read FileFault (List Block) → (List ℕ → Coming) → Coming
behind (Ok g) next = with_group g.0 (next g.1)
behind (Err e) next = record { groups = []; end = Some e }

-- of all bytes the rest is left, with row groups of these sizes, the first of which has this number
abbrev pub coming_at : ℕ → List Column → List ℕ → List ℕ → List ℕ → Coming
coming_at group columns [] all rest = record { groups = []; end = end_at all rest }
coming_at group columns (n ∷ sizes) all rest = behind (group_at group columns n rest) (λ left. coming_at (suc group) columns sizes all left)

abbrev pub whole_or : List (List Block) → Option FileFault → Result (List (List Block)) FileFault
whole_or groups None = Ok groups
whole_or groups (Some e) = Err e

-- all row groups, where the end is right, else the fault
abbrev pub whole : Coming → Result (List (List Block)) FileFault
whole c = whole_or c.groups c.end

-- the row groups, where the seal stands behind them and ends the bytes
abbrev pub sealed : List ℕ → List (List Block) → Read FileFault (List ℕ) → Result (List (List Block)) FileFault
sealed all groups read = do
  seal ← read
  end ← from_wire (sealed_end all seal.0 seal.1)
  Ok groups

-- how the reading of a whole file goes on behind its header
abbrev pub ended : List ℕ → Read FileFault (List (List Block)) → Result (List (List Block)) FileFault
ended all read = do
  groups ← read
  sealed all groups.0 (from_wire (bytes_at 32 groups.1))

-- ---- a file

-- the header that the bytes begin with
abbrev pub header_read : List ℕ → Read FileFault Header
header_read bytes = from_wire (behind_magic fragment_magic bytes) >>= header_at

-- what is to come behind a header
abbrev pub coming_behind : List ℕ → Header → List ℕ → Coming
coming_behind bytes header rest = coming_at 0 header.columns (group_sizes header.rows) bytes rest

-- the header, and then the row groups one after the other to their end
abbrev pub file_in_turn : List ℕ → Result FragmentSpec FileFault
file_in_turn bytes = do
  header ← header_read bytes
  groups ← whole (coming_behind bytes header.0 header.1)
  Ok (record { header = header.0; groups = groups })
