-- How the file of a cut is read, and what is printed of its fields.
use Rattle.std.specs.Prelude.{ℕ, ◌+◌, ◌==◌, nat_le, ◌&&◌, if◌then◌else◌, List, [], ◌∷◌, ◌++◌, length, sum, codes, decimal, Option, None, Some, Ok}
use Rattle.std.specs.List.{flat_map}
use Rattle.meaning.specs.Limits.{max_fragments, max_rows}
use Rattle.wire.specs.Reading.{◌>>=◌, Read, number_at, repeat_at}
use Rattle.answer_fields.specs.Fault.{from_wire}
use Rattle.answer_fields.specs.declared.fault.DecodeFault.{DecodeFault}
use Rattle.answer_text.specs.Reading.{capped, seal_at}
use Rattle.fragment_file.specs.CutFile.{CutFileSpec}
use Rattle.table_text.specs.Fields.{limited}
use Rattle.table_text.specs.declared.cuts.Alike.{Alike}

-- ---- what is read

-- how many fragments there are
abbrev pub count_at : List ℕ → Read DecodeFault ℕ
count_at bytes = from_wire (number_at 4 bytes) >>= λ n. limited (nat_le 1 n.0 && nat_le n.0 max_fragments) n

-- how many rows one fragment has
abbrev pub length_at : List ℕ → Read DecodeFault ℕ
length_at bytes = from_wire (number_at 4 bytes) >>= λ n. limited (nat_le n.0 max_rows) n

-- the number of fragments, and how many rows each has
abbrev pub lengths_at : List ℕ → Read DecodeFault (List ℕ)
lengths_at bytes = do
  n ← count_at bytes
  repeat_at length_at n.0 n.1

-- the same, and the seal of all bytes of the file
abbrev pub sealed_lengths_at : List ℕ → List ℕ → Read DecodeFault (List ℕ)
sealed_lengths_at whole bytes = do
  lengths ← lengths_at bytes
  seal ← seal_at whole lengths.1
  Ok (lengths.0, seal.1)

abbrev pub cut_of : ℕ → List ℕ → CutFileSpec
cut_of load cut = record { load = load; cut = cut }

-- the file of a cut behind its magic
abbrev pub cut_at : List ℕ → List ℕ → Read DecodeFault CutFileSpec
cut_at whole bytes = do
  load ← from_wire (number_at 8 bytes)
  lengths ← sealed_lengths_at whole load.1
  Ok (cut_of load.0 lengths.0, lengths.1)

-- ---- neighbours of as many rows each

-- they are one with those behind them, where these have as many rows
abbrev pub joined : Alike → List Alike → List Alike
joined a [] = a ∷ []
joined a (next ∷ others) = if a.rows == next.rows then record { first = a.first; last = next.last; rows = a.rows } ∷ others else a ∷ (next ∷ others)

abbrev pub alone : ℕ → ℕ → Alike
alone k n = record { first = k; last = k; rows = n }

-- the fragments from this number on, as many neighbours together as can be
unfoldable pub neighbours : ℕ → List ℕ → List Alike
neighbours k [] = []
neighbours k (n ∷ ns) = joined (alone k n) (neighbours (k + 1) ns)

-- the line of one, and of some together
abbrev pub alone_line : ℕ → ℕ → List ℕ
alone_line k n = codes "fragment " ++ decimal k ++ codes ": " ++ decimal n ++ codes " rows\n"

abbrev pub together_line : ℕ → ℕ → ℕ → List ℕ
together_line first last n = codes "fragments " ++ decimal first ++ codes "-" ++ decimal last ++ codes ": " ++ decimal n ++ codes " rows each\n"

abbrev pub alike_text : Alike → List ℕ
alike_text a = if a.first == a.last then alone_line a.first a.rows else together_line a.first a.last a.rows

-- what is left to be printed: neighbours that may still go on, if there are some, and these fragments behind them
abbrev pub pending : Option Alike → ℕ → List ℕ → List ℕ
pending None k ns = flat_map alike_text (neighbours k ns)
pending (Some a) k ns = flat_map alike_text (joined a (neighbours k ns))

-- ---- what is printed

abbrev pub load_line : ℕ → List ℕ
load_line load = codes "load " ++ decimal load ++ codes "\n"

abbrev pub count_line : ℕ → List ℕ
count_line n = codes "fragments " ++ decimal n ++ codes "\n"

abbrev pub rows_line : ℕ → List ℕ
rows_line n = codes "rows " ++ decimal n ++ codes "\n"

-- a line for the neighbours that have as many rows each
abbrev pub each_text : List ℕ → List ℕ
each_text cut = flat_map alike_text (neighbours 0 cut)

-- how many fragments there are, the rows of each, and the rows of all
abbrev pub lengths_text : List ℕ → List ℕ
lengths_text cut = count_line (length cut) ++ (each_text cut ++ rows_line (capped (sum cut)))

-- all that is printed of a cut
abbrev pub cut_text : CutFileSpec → List ℕ
cut_text f = load_line f.load ++ lengths_text f.cut
