-- Loop invariants of `judge_fields` (`record`).
use Rattle.std.proofs.Common.{◌≡◌, drop, length}
use Rattle.std.specs.Prelude.{slice_get, zip}
use Rattle.csv.specs.Records.{fields_of}
use Rattle.meaning.specs.Records as declared
use Rattle.loader.specs.Steps.{values_of}
use Rattle.loader.proofs.Judging.{judged_behind}
use Rattle.loader.proofs.record.judge_fields.Given as goal

abbrev pub invariant-loop-i : goal.invariant-loop-i
invariant-loop-i l = (length l.parsed.items ≡ l.i) ×
    (judged_behind (λ p. declared.value_at l.row p.0 (slice_get l.columns p.0) p.1) (values_of l.parsed.items (fields_of l.fields)) (drop l.i (zip l.order (fields_of l.fields)))
    ≡ declared.file_values l.columns l.order l.row (fields_of l.fields))
