-- How journals are read, and what is printed of them.
use Rattle.std.specs.Prelude.{◌≡◌, ◌≢◌, ℕ, zero, suc, ◌+◌, ◌-◌, ◌==◌, Bool, true, false, if◌then◌else◌, List, [], ◌∷◌, ◌++◌, length, codes, decimal, Result, Ok, Err}
use Rattle.std.specs.List.{enumerate_from, flat_map}
use Rattle.wire.specs.Reading.{◌>>=◌, Read, bytes_at, number_at}
use Rattle.wire.specs.declared.fault.WireFault.{WireFault}
use Rattle.answer_fields.specs.Fault.{from_wire}
use Rattle.answer_fields.specs.Format.{format_at}
use Rattle.answer_fields.specs.Format as formats
use Rattle.answer_fields.specs.LayoutReading.{JobFields}
use Rattle.answer_fields.specs.Shape.{Shape}
use Rattle.answer_fields.specs.Spelling.{Layout}
use Rattle.answer_fields.specs.declared.fault.DecodeFault.{DecodeFault}
use Rattle.answer_fields.specs.declared.format.Content.TheVariants as content
use Rattle.answer_text.specs.Reading.{answer_at, capped, fault_in, fault_of}
use Rattle.answer_text.specs.Texts.{body_text, job_text, shape_text}
use Rattle.answer_text.specs.declared.damage.Stop.{Stop}
use Rattle.answer_text.specs.declared.damage.Stop.TheVariants as stop
use Rattle.answer_text.specs.declared.damage.Wrong.TheVariants as wrong
use Rattle.answer_text.specs.declared.detail.Detail.{Detail}

-- ---- what is read

-- how many bytes of the file stand before those of its answer, how many these are, and the answer
pub record RecordLayout : Type 0 where
  pub before : ℕ
  pub size : ℕ
  pub answer : Layout

-- the records, and how many bytes stand before the closed gate and behind it
pub record JournalLayout : Type 0 where
  pub records : List RecordLayout
  pub before_gate : ℕ
  pub behind_gate : ℕ

-- an answer from its magic on, up to the seal of all these bytes
abbrev pub whole_answer_at : List ℕ → Read DecodeFault Layout
whole_answer_at bytes = do
  format ← format_at content.Answer bytes
  answer_at format.0 bytes format.1

-- what stands behind an open gate: the length of an answer's bytes, and these
abbrev pub record_at : List ℕ → List ℕ → Read DecodeFault RecordLayout
record_at whole bytes = do
  size ← from_wire (number_at 4 bytes)
  spelling ← from_wire (bytes_at size.0 size.1)
  answer ← whole_answer_at spelling.0
  Ok (record { before = length whole - length size.1; size = length spelling.0; answer = answer.0 }, spelling.1)

abbrev pub or_no_gate : Read WireFault ℕ → Read DecodeFault ℕ
or_no_gate (Ok p) = Ok p
or_no_gate (Err e) = Err (fault_of wrong.NoGate)

-- a gate, or that the bytes end before one
abbrev pub gate_at : List ℕ → Read DecodeFault ℕ
gate_at bytes = or_no_gate (number_at 1 bytes)

-- these bytes begin with the closed gate, behind which the rest stands
abbrev pub no_records : List ℕ → List ℕ → List ℕ → JournalLayout
no_records whole bytes rest = record { records = []; before_gate = length whole - length bytes; behind_gate = length rest }

abbrev pub with_record : RecordLayout → JournalLayout → JournalLayout
with_record r behind = record { records = r ∷ behind.records; before_gate = behind.before_gate; behind_gate = behind.behind_gate }

-- a record, and what is read behind it
abbrev pub behind_record : RecordLayout → Read DecodeFault JournalLayout → Read DecodeFault JournalLayout
behind_record r read = read >>= λ others. Ok (with_record r others.0, others.1)

-- the records, each behind an open gate, which is any number but 0; the closed gate is one of so many gates from the front
unfoldable pub gates_at : List ℕ → ℕ → List ℕ → Read DecodeFault JournalLayout
gates_at whole zero bytes = Err (fault_of wrong.NoGate)
gates_at whole (suc many) bytes = gate_at bytes >>= λ gate. if gate.0 == 0 then Ok (no_records whole bytes gate.1, gate.1)
    else (record_at whole gate.1 >>= λ r. behind_record r.0 (gates_at whole many r.1))

-- a journal of at most 2^20 records, behind its magic
abbrev pub journal_at : List ℕ → List ℕ → Read DecodeFault JournalLayout
journal_at whole bytes = gates_at whole 1048577 bytes

-- ---- what is printed

-- load, cut, query and shape, of the first record alone
abbrev pub first_text : ℕ → JobFields → Shape → List ℕ
first_text number job shape = if number == 0 then job_text job ++ shape_text shape else []

-- the line of the record of this number, whose bytes begin at this byte
abbrev pub record_line : ℕ → ℕ → ℕ → ℕ → ℕ → List ℕ
record_line number at size format k =
    codes "record " ++ decimal number ++ codes " at byte " ++ decimal at ++ codes ", " ++ decimal size ++ codes " bytes in format " ++ decimal format ++ codes ", fragment " ++ decimal k ++ codes ": "

-- an answer in a record
abbrev pub record_answer_text : Detail → ℕ → ℕ → ℕ → Layout → List ℕ
record_answer_text detail number at size l =
    first_text number (record { load = l.load; text = l.text; cut = l.cut }) l.shape ++ record_line number at size (formats.number l.format) l.k ++ body_text detail l.shape l.body

-- a record of a journal that begins at the byte `first` of its file
abbrev pub record_text : Detail → ℕ → ℕ → RecordLayout → List ℕ
record_text detail first number r = record_answer_text detail number (capped (first + r.before)) r.size r.answer

unfoldable pub records_text : Detail → ℕ → List RecordLayout → List ℕ
records_text detail first records = flat_map (λ p. record_text detail first p.0 p.1) (enumerate_from 0 records)

-- how many bytes stand behind the closed gate, if any do
abbrev pub behind_text : ℕ → List ℕ
behind_text behind = if behind == 0 then [] else decimal behind ++ codes " bytes behind it, which count for nothing\n"

abbrev pub gate_text : ℕ → ℕ → List ℕ
gate_text at behind = codes "closed gate at byte " ++ decimal at ++ codes "\n" ++ behind_text behind

abbrev pub journal_line : ℕ → List ℕ
journal_line size = codes "journal, " ++ decimal size ++ codes " bytes\n"

-- records, and the gate that ends them
abbrev pub gates_text : Detail → ℕ → JournalLayout → List ℕ
gates_text detail first j = records_text detail first j.records ++ gate_text (capped (first + j.before_gate)) j.behind_gate

-- all that is printed of a journal, in a file of so many bytes
abbrev pub journal_text : Detail → ℕ → ℕ → JournalLayout → List ℕ
journal_text detail first size j = journal_line size ++ gates_text detail first j

-- ---- gates that are read one after the other

-- Whether the gate was the closed one, whose line is printed; else its record is, and what stands behind it is read next. Or
-- what is wrong with them, unless memory was wanting.
abbrev pub ShowsGate : Detail → ℕ → ℕ → List ℕ → Result Bool Stop → List ℕ → List ℕ → List ℕ → List ℕ → Type 0
ShowsGate detail first number whole (Ok true) before after bytes rest =
    ((many : ℕ) → gates_at whole (suc many) bytes ≡ Ok (no_records whole bytes rest, rest)) × (after ≡ before ++ gate_text (capped (first + (length whole - length bytes))) (length rest))
ShowsGate detail first number whole (Ok false) before after bytes rest =
    (r : RecordLayout) × ((many : ℕ) → gates_at whole (suc many) bytes ≡ behind_record r (gates_at whole many rest)) × (after ≡ before ++ record_text detail first number r)
ShowsGate detail first number whole (Err e) before after bytes rest = e ≢ stop.Memory → (many : ℕ) → gates_at whole (suc many) bytes ≡ Err (fault_in e)
