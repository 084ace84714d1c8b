-- Loop invariants of `show_gates` (`journals`).
use Rattle.std.proofs.Common.{◌≡◌, ◌-◌, ◌++◌, List, length, string_bytes}
use Rattle.answer_text.specs.Journals.{RecordLayout, gates_at, records_text}
use Rattle.answer_text.specs.Reading.{IsSamePart}
use Rattle.answer_text.proofs.Gates.{behind_all}
use Rattle.answer_text.proofs.journals.show_gates.Given as goal

-- the records before this one were read, and shown
abbrev pub invariant-loop-number : goal.invariant-loop-number
invariant-loop-number l =
    let whole = l.fn.cursor.bytes.now in
    (records : List RecordLayout) × (behind_all records (gates_at whole (l.many - l.number) l.cursor.rest.now) ≡ gates_at whole l.many l.fn.cursor.rest.now)
    × (string_bytes l.out ≡ string_bytes l.fn.out ++ records_text l.detail l.fn.cursor.first records) × (length records ≡ l.number) × IsSamePart l.fn.cursor l.cursor
