-- What a cursor's readers give of the bytes that are left, and why reading ends.
use Rattle.std.specs.Prelude.{◌≡◌, ◌≢◌, ◌⊎◌, ℕ, ◌+◌, ◌-◌, ◌^◌, min, List, ◌++◌, codes, length, Result, Ok, Err}
use Rattle.std.specs.Borrow.{Bor}
use Rattle.meaning.specs.declared.plan.AggregateKind.{AggregateKind}
use Rattle.meaning.specs.Said.{Body, Cell}
use Rattle.meaning.specs.declared.value.Value.{Value}
use Rattle.wire.specs.Reading.{◌>>=◌, Read, bytes_at, number_at, repeat_at, sealed_end, utf8_of}
use Rattle.wire.specs.declared.fault.WireFault.{WireFault}
use Rattle.answer_fields.specs.Fault.{fault_of as of_wire, from_wire}
use Rattle.answer_fields.specs.LayoutReading.{body_at, job_at, kind_of, laid_out, shape_at, value_at}
use Rattle.answer_fields.specs.declared.format.Format.{Format}
use Rattle.answer_fields.specs.Shape.{Shape}
use Rattle.answer_fields.specs.Spelling.{Layout}
use Rattle.answer_fields.specs.StateSpelling.{StateLayout, cell_at, state_laid_out}
use Rattle.answer_fields.specs.declared.fault.DecodeFault.{DecodeFault}
use Rattle.answer_fields.specs.declared.fault.DecodeFault.TheVariants as fault
use Rattle.fragment_file.specs.declared.fault.FileFault.{FileFault}
use Rattle.fragment_file.specs.declared.fault.FileFault.TheVariants as file
use Rattle.answer_text.specs.declared.cursor.Cursor.{Cursor}
use Rattle.answer_text.specs.declared.damage.Stop.{Stop}
use Rattle.answer_text.specs.declared.damage.Stop.TheVariants as stop
use Rattle.answer_text.specs.declared.damage.Wrong.{Wrong}
use Rattle.answer_text.specs.declared.damage.Wrong.TheVariants as wrong

-- ---- what is wrong

-- the number by which the commands refuse it
abbrev pub number_of : Wrong → ℕ
number_of wrong.OtherMagic = 1
number_of wrong.EndsEarly = 2
number_of wrong.BytesBehind = 3
number_of wrong.OtherSeal = 4
number_of (wrong.NoBlock group column) = 5
number_of wrong.Header = 6
number_of wrong.Limit = 7
number_of wrong.Unknown = 9
number_of wrong.NoGate = 14

-- why an answer's bytes are refused where they are so wrong; `Memory` of what is wrong with other files alone
abbrev pub fault_of : Wrong → DecodeFault
fault_of wrong.OtherMagic = fault.Magic
fault_of wrong.EndsEarly = fault.Truncated
fault_of wrong.BytesBehind = fault.TrailingBytes
fault_of wrong.OtherSeal = fault.Seal
fault_of (wrong.NoBlock group column) = fault.Memory
fault_of wrong.Header = fault.Memory
fault_of wrong.Limit = fault.Memory
fault_of wrong.Unknown = fault.Shape
fault_of wrong.NoGate = fault.Memory

abbrev pub fault_in : Stop → DecodeFault
fault_in stop.Memory = fault.Memory
fault_in (stop.Damaged d) = fault_of d.wrong

-- so it is wrong, and so are the field and its first byte
abbrev pub IsDamage : Wrong → ℕ → List ℕ → Stop → Type 0
IsDamage w at field stop.Memory = ⊥
IsDamage w at field (stop.Damaged d) = (d.wrong ≡ w) × (d.at ≡ at) × (d.field.now ≡ field)

-- ---- cursors

-- a number, or the greatest of 64 bits where it is greater
abbrev pub capped : ℕ → ℕ
capped n = min n (2 ^ 64 - 1)

-- how many bytes of the part stand before those that weren't read yet
abbrev pub offset : Cursor → ℕ
offset c = length c.bytes.now - length c.rest.now

-- the byte of the file at this offset of the part
abbrev pub place : Cursor → ℕ → ℕ
place c n = capped (c.first + n)

-- the cursors go over the same part of a file
abbrev pub IsSamePart : Cursor → Cursor → Type 0
IsSamePart a b = (b.first ≡ a.first) × (b.bytes.now ≡ a.bytes.now)

-- ---- what a reader gave

-- a damage at this byte of the file, in this field
abbrev pub IsPlaced : ℕ → List ℕ → Stop → Type 0
IsPlaced at field stop.Memory = ⊥
IsPlaced at field (stop.Damaged d) = (d.at ≡ at) × (d.field.now ≡ field)

-- a damage of the seal, which begins at this byte; or of bytes behind it, the first of which is at that one
abbrev pub IsSealPlaced : ℕ → ℕ → Stop → Type 0
IsSealPlaced seal end e = IsPlaced seal (codes "the seal") e ⊎ IsDamage wrong.BytesBehind end (codes "the end") e

-- why a whole file is refused, where no field of it was read
abbrev pub IsUnplaced : FileFault → Stop → Type 0
IsUnplaced file.Memory e = e ≡ stop.Memory
IsUnplaced file.Device e = e ≡ stop.Memory
IsUnplaced file.Magic e = IsDamage wrong.OtherMagic 0 (codes "the file") e
IsUnplaced file.Truncated e = IsDamage wrong.EndsEarly 0 (codes "the file") e
IsUnplaced file.TrailingBytes e = IsDamage wrong.BytesBehind 0 (codes "the file") e
IsUnplaced file.Seal e = IsDamage wrong.OtherSeal 0 (codes "the file") e
IsUnplaced (file.Block group column) e = IsDamage (wrong.NoBlock group column) 0 (codes "the file") e
IsUnplaced file.Header e = IsDamage wrong.Header 0 (codes "the file") e
IsUnplaced file.Limit e = IsDamage wrong.Limit 0 (codes "the file") e

-- the part that was taken from the front, and the bytes behind it; or why there is none
abbrev pub GoesOn : {X : Type 0} → Result (X × Bor (List ℕ)) WireFault → Result X Stop → List ℕ → Type 0
GoesOn (Ok p) result rest = (result ≡ Ok p.0) × (rest ≡ p.1.now)
GoesOn (Err e) result rest = (s : Stop) × (result ≡ Err s) × (fault_in s ≡ of_wire e)

-- the part that is read, seen by `view`, and the bytes that are left behind it; or what is wrong with it
abbrev pub Takes : {X Y : Type 0} → (X → Y) → Result X Stop → List ℕ → Read DecodeFault Y → Type 0
Takes view (Ok x) rest read = read ≡ Ok (view x, rest)
Takes view (Err e) rest read = read ≡ Err (fault_in e)

-- the same, unless memory was wanting
abbrev pub TakesIfMemory : {X Y : Type 0} → (X → Y) → Result X Stop → List ℕ → Read DecodeFault Y → Type 0
TakesIfMemory view (Ok x) rest read = read ≡ Ok (view x, rest)
TakesIfMemory view (Err e) rest read = e ≢ stop.Memory → read ≡ Err (fault_in e)

-- what a code says, seen by `view`; or what is wrong with it
abbrev pub Judges : {X Y : Type 0} → (X → Y) → Result X Wrong → Result Y DecodeFault → Type 0
Judges view (Ok x) meant = meant ≡ Ok (view x)
Judges view (Err w) meant = meant ≡ Err (fault_of w)

-- a part that is read, where a relation says whether what was given is that; or what is wrong with it
abbrev pub Keeps : {X Y : Type 0} → (X → Y → Type 0) → Result X Stop → List ℕ → Read DecodeFault Y → Type 0
Keeps {X} {Y} is (Ok x) rest read = (y : Y) × (read ≡ Ok (y, rest)) × is x y
Keeps is (Err e) rest read = read ≡ Err (fault_in e)

-- what is read, as the text that was written behind the one before; or what is wrong with it, unless memory was wanting
abbrev pub Shows : {Y : Type 0} → (Y → List ℕ) → Result (Unit {0}) Stop → List ℕ → List ℕ → List ℕ → Read DecodeFault Y → Type 0
Shows {Y} text (Ok done) before after rest read = (y : Y) × (read ≡ Ok (y, rest)) × (after ≡ before ++ text y)
Shows text (Err e) before after rest read = e ≢ stop.Memory → read ≡ Err (fault_in e)

-- so many bytes, which are a text
abbrev pub text_of_bytes : ℕ → List ℕ → Read WireFault (List ℕ)
text_of_bytes n bytes = do
  taken ← bytes_at n bytes
  text ← utf8_of taken.0
  Ok (text, taken.1)

-- the seal of the bytes before it, and nothing behind it
abbrev pub seal_at : List ℕ → List ℕ → Read DecodeFault (Unit {0})
seal_at bytes rest = do
  seal ← from_wire (bytes_at 32 rest)
  end ← from_wire (sealed_end bytes seal.0 seal.1)
  Ok (tt, seal.1)

-- ---- fields

-- an aggregate's kind, of any format
abbrev pub any_kind_at : List ℕ → Read DecodeFault AggregateKind
any_kind_at bytes = do
  n ← from_wire (number_at 1 bytes)
  kind ← kind_of n.0
  Ok (kind, n.1)

-- how many values there are, and one of them
abbrev pub extreme_at : List ℕ → Read DecodeFault (ℕ × Value)
extreme_at bytes = do
  n ← from_wire (number_at 4 bytes)
  value ← value_at n.1
  Ok ((n.0, value.0), value.1)

-- a body of the shape, and the seal behind it
abbrev pub sealed_body_at : Shape → List ℕ → List ℕ → Read DecodeFault Body
sealed_body_at shape whole bytes = do
  body ← body_at shape bytes
  seal ← seal_at whole body.1
  Ok (body.0, seal.1)

-- the shape of groups, a body of it, and the seal
abbrev pub shaped_at : Format → List ℕ → List ℕ → Read DecodeFault (Shape × Body)
shaped_at format whole bytes = do
  shape ← shape_at format bytes
  body ← sealed_body_at shape.0 whole shape.1
  Ok ((shape.0, body.0), body.1)

-- the fragment, and what stands behind it
abbrev pub from_fragment_at : Format → List ℕ → List ℕ → Read DecodeFault (ℕ × (Shape × Body))
from_fragment_at format whole bytes = do
  k ← from_wire (number_at 4 bytes)
  shaped ← shaped_at format whole k.1
  Ok ((k.0, shaped.0), shaped.1)

-- an answer behind its magic, up to the seal of all bytes of its file
abbrev pub answer_at : Format → List ℕ → List ℕ → Read DecodeFault Layout
answer_at format whole bytes = do
  job ← job_at bytes
  behind ← from_fragment_at format whole job.1
  Ok (laid_out format job.0 behind.0.0 behind.0.1.0 behind.0.1.1, behind.1)

-- what is held for so many fragments, and the seal behind it
abbrev pub sealed_cells_at : Shape → ℕ → List ℕ → List ℕ → Read DecodeFault (List Cell)
sealed_cells_at shape count whole bytes = do
  cells ← repeat_at (cell_at shape) count bytes
  seal ← seal_at whole cells.1
  Ok (cells.0, seal.1)

-- the shape of groups, what is held for so many fragments, and the seal
abbrev pub shaped_cells_at : Format → ℕ → List ℕ → List ℕ → Read DecodeFault (Shape × List Cell)
shaped_cells_at format count whole bytes = do
  shape ← shape_at format bytes
  cells ← sealed_cells_at shape.0 count whole shape.1
  Ok ((shape.0, cells.0), cells.1)

-- a state behind its magic, up to the seal of all bytes of its file: what is held for each fragment of the cut
abbrev pub state_at : Format → List ℕ → List ℕ → Read DecodeFault StateLayout
state_at format whole bytes = do
  job ← job_at bytes
  behind ← shaped_cells_at format (length job.0.cut) whole job.1
  Ok (state_laid_out format job.0 behind.0.0 behind.0.1, behind.1)
