-- Loop invariants of `show_lengths` (`cuts`).
use Rattle.std.proofs.Common.{◌≡◌, ◌-◌, ◌++◌, List, ℕ, string_bytes}
use Rattle.std.specs.Prelude.{sum}
use Rattle.wire.specs.Reading.{repeat_at}
use Rattle.wire.proofs.Loops.{read_behind}
use Rattle.answer_text.specs.Reading.{IsSamePart, capped}
use Rattle.table_text.specs.CutText.{each_text, length_at, pending}
use Rattle.table_text.proofs.cuts.show_lengths.Given as goal

-- the lengths of the fragments before this one were read; what is left to be printed goes on from them
abbrev pub invariant-loop-fragment : goal.invariant-loop-fragment
invariant-loop-fragment l = (cut : List ℕ) × (read_behind length_at cut (l.count - l.fragment) l.cursor.rest.now ≡ repeat_at length_at l.count l.fn.cursor.rest.now)
    × ((behind : List ℕ) → string_bytes l.out ++ pending l.alike l.fragment behind ≡ string_bytes l.fn.out ++ each_text (cut ++ behind)) × (l.all ≡ capped (sum cut)) × IsSamePart l.fn.cursor l.cursor
