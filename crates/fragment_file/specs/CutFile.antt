-- The file of a cut: what it holds, its one spelling, and how it is read.
use Rattle.std.specs.Prelude.{◌≡◌, ℕ, ◌<◌, ◌^◌, nat_le, ◌&&◌, List, [], ◌∷◌, ◌++◌, length, flat_map, Result, Ok}
use Rattle.meaning.specs.Cut.{IsCut}
use Rattle.meaning.specs.Limits.{max_fragments, max_rows}
use Rattle.fragment_file.specs.declared.fault.FileFault.{FileFault}
use Rattle.wire.specs.Reading.{◌>>=◌, Read, bytes_at, number_at, repeat_at, behind_magic, sealed_end}
use Rattle.wire.specs.Bytes.{number_bytes, sealed}
use Rattle.fragment_file.specs.FragmentReading.{within}
use Rattle.fragment_file.specs.Fault.{from_wire}

-- the load that made the files, and how many rows each fragment has
pub record CutFileSpec : Type 0 where
  pub load : ℕ
  pub cut : List ℕ

-- a load and a cut as such
abbrev pub cut_file : ℕ × List ℕ → CutFileSpec
cut_file x = record { load = x.0; cut = x.1 }

-- `XCL1`
unfoldable pub cut_magic : List ℕ
cut_magic = 88 ∷ 67 ∷ 76 ∷ 49 ∷ []

unfoldable pub cut_bytes : CutFileSpec → List ℕ
cut_bytes f = cut_magic ++ number_bytes 8 f.load ++ number_bytes 4 (length f.cut) ++ flat_map (number_bytes 4) f.cut

pub record IsCutFileOf (bytes : List ℕ) (f : CutFileSpec) : Type 0 where
  pub spelled : bytes ≡ sealed (cut_bytes f)
  pub load : f.load < 2 ^ 64
  pub cut : IsCut f.cut

-- how many rows one fragment has, judged as it is read
unfoldable pub length_at : List ℕ → Read FileFault ℕ
length_at bytes = from_wire (number_at 4 bytes) >>= λ n. within (nat_le n.0 max_rows) n

unfoldable pub read_cut_file : List ℕ → Result CutFileSpec FileFault
read_cut_file bytes = do
  rest ← from_wire (behind_magic cut_magic bytes)
  load ← from_wire (number_at 8 rest)
  n ← from_wire (number_at 4 load.1)
  n ← within (nat_le 1 n.0 && nat_le n.0 max_fragments) n
  cut ← repeat_at length_at n.0 n.1
  seal ← from_wire (bytes_at 32 cut.1)
  end ← from_wire (sealed_end bytes seal.0 seal.1)
  Ok (record { load = load.0; cut = cut.0 })
