-- How a block of a table's file is read, and what is printed of it and of all blocks of a column.
use Rattle.std.specs.Prelude.{◌≡◌, ◌≢◌, ℕ, ◌+◌, ◌-◌, ◌^◌, ◌==◌, min, Bool, if◌then◌else◌, List, [], ◌∷◌, ◌++◌, length, map, sum, codes, decimal, Option, None, Some, Ok, Err}
use Rattle.std.specs.List.{filter, flat_map, slice_get}
use Rattle.meaning.specs.declared.catalog.Column.{Column}
use Rattle.blocks.specs.Block.{Block, body_of, nulls_of}
use Rattle.blocks.specs.Frame.{width_of}
use Rattle.blocks.specs.Kind.{kind_code}
use Rattle.blocks.specs.declared.kind.Kind.{Kind}
use Rattle.blocks.specs.declared.kind.Kind.TheVariants as kind
use Rattle.wire.specs.Reading.{◌>>=◌, Read, bytes_at, number_at}
use Rattle.wire.specs.declared.fault.WireFault.{WireFault}
use Rattle.answer_fields.specs.Fault.{from_wire}
use Rattle.answer_fields.specs.declared.fault.DecodeFault.{DecodeFault}
use Rattle.fragment_file.specs.FragmentReading.{block_of, kind_of}
use Rattle.answer_text.specs.Reading.{capped, fault_of}
use Rattle.answer_text.specs.Shares.{share_text}
use Rattle.answer_text.specs.declared.damage.Stop.{Stop}
use Rattle.answer_text.specs.declared.damage.Stop.TheVariants as stop
use Rattle.answer_text.specs.declared.damage.Wrong.TheVariants as wrong
use Rattle.table_text.specs.declared.blocks_shown.Total.{Total}

-- ---- what is read

-- a block in front of these bytes, or that there is none, wherever it stands
abbrev pub as_block : Option Block → List ℕ → Read DecodeFault Block
as_block None rest = Err (fault_of (wrong.NoBlock 0 0))
as_block (Some b) rest = Ok (b, rest)

-- the code of a kind, and a payload behind its length
abbrev pub payload_at : List ℕ → Read DecodeFault (ℕ × List ℕ)
payload_at bytes = do
  k ← from_wire (number_at 1 bytes)
  n ← from_wire (number_at 4 k.1)
  payload ← from_wire (bytes_at n.0 n.1)
  Ok ((k.0, payload.0), payload.1)

-- a block of so many rows of a column
unfoldable pub block_at : Column → ℕ → List ℕ → Read DecodeFault Block
block_at c rows bytes = payload_at bytes >>= λ p. as_block (block_of (kind_of p.0.0) c rows p.0.1) p.1

-- there is no block of this row group and this column
abbrev pub IsNoBlock : ℕ → ℕ → Stop → Type 0
IsNoBlock group column stop.Memory = ⊥
IsNoBlock group column (stop.Damaged d) = d.wrong ≡ wrong.NoBlock group column

-- so it is refused where a payload stands there, unless memory was wanting
abbrev pub IsRefusedBlock : ℕ → ℕ → List ℕ → Stop → Type 0
IsRefusedBlock group column bytes e = e ≢ stop.Memory → (payload : ℕ × List ℕ) (rest : List ℕ) → payload_at bytes ≡ Ok (payload, rest) → IsNoBlock group column e

-- ---- what is printed of a block

-- the number that was read, or 0
abbrev pub or_zero : Read WireFault ℕ → ℕ
or_zero (Ok p) = p.0
or_zero (Err e) = 0

-- the number with which a dictionary or runs begin
abbrev pub leading : List ℕ → ℕ
leading body = or_zero (number_at 4 body)

abbrev pub entries_text : ℕ → List ℕ
entries_text n = codes "dictionary of " ++ decimal n ++ codes " entries"

abbrev pub runs_text : ℕ → List ℕ
runs_text n = decimal n ++ codes " runs"

abbrev pub width_text : ℕ → List ℕ
width_text n = codes "frame of " ++ decimal n ++ codes " bits"

-- of a body of this kind
abbrev pub kind_text : Kind → List ℕ → List ℕ
kind_text kind.Plain body = codes "plain"
kind_text kind.Dict body = entries_text (leading body)
kind_text kind.Runs body = runs_text (leading body)
kind_text kind.Frame body = width_text (width_of body)

-- how many rows are NULL
abbrev pub null_count : Block → ℕ
null_count b = length (filter (λ n. n) (nulls_of b))

abbrev pub name_text : List ℕ → List ℕ
name_text name = codes "  " ++ name ++ codes ": "

abbrev pub sizes_text : ℕ → ℕ → ℕ → List ℕ
sizes_text rows bytes nulls = codes ", " ++ decimal rows ++ codes " rows, " ++ decimal bytes ++ codes " bytes, " ++ decimal nulls ++ codes " NULL\n"

-- the line of a block of the column of this name
abbrev pub block_line : List ℕ → Block → List ℕ
block_line name b = name_text name ++ (kind_text b.kind (body_of b) ++ sizes_text b.rows (length b.payload) (null_count b))

-- ---- what the blocks of a column come to

-- a number, or the greatest of 32 bits where it is greater
abbrev pub short_capped : ℕ → ℕ
short_capped n = min n (2 ^ 32 - 1)

abbrev pub is_kind : Kind → Block → Bool
is_kind k b = kind_code b.kind == kind_code k

-- how many are of this kind
abbrev pub of_kind : Kind → List Block → ℕ
of_kind k blocks = short_capped (length (filter (is_kind k) blocks))

abbrev pub total_of : List Block → Total
total_of blocks = record {
  bytes = capped (sum (map (λ b. length b.payload) blocks));
  nulls = capped (sum (map null_count blocks));
  plain = of_kind kind.Plain blocks;
  dict = of_kind kind.Dict blocks;
  runs = of_kind kind.Runs blocks;
  frame = of_kind kind.Frame blocks;
}

abbrev pub if_any : Option Block → List Block
if_any None = []
if_any (Some b) = b ∷ []

-- the blocks of the column of this number in all row groups
abbrev pub column_blocks : ℕ → List (List Block) → List Block
column_blocks j groups = flat_map (λ g. if_any (slice_get g j)) groups

-- so many blocks of a kind, if there are any
abbrev pub some_text : ℕ → List ℕ → List ℕ
some_text n word = if n == 0 then [] else codes ", " ++ decimal n ++ codes " " ++ word

abbrev pub kinds_text : Total → List ℕ
kinds_text t = some_text t.plain (codes "plain") ++ (some_text t.dict (codes "dictionary") ++ (some_text t.runs (codes "runs") ++ some_text t.frame (codes "frame")))

abbrev pub bytes_text : ℕ → List ℕ
bytes_text n = decimal n ++ codes " bytes"

abbrev pub nulls_text : ℕ → List ℕ
nulls_text n = codes ", " ++ decimal n ++ codes " NULL"

-- the end of a line
abbrev pub counts_text : Total → List ℕ
counts_text t = nulls_text t.nulls ++ (kinds_text t ++ codes "\n")

-- the line of the column of this name in a file of so many rows
abbrev pub total_line : ℕ → List ℕ → Total → List ℕ
total_line rows name t = name_text name ++ (bytes_text t.bytes ++ (share_text t.bytes rows ++ counts_text t))
