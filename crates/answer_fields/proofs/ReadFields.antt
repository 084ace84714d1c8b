-- The fields that describe a job, by what was read of them.
use Rattle.std.proofs.Common.{◌≡◌, ◌*◌, ℕ, true, List, length, Ok, refl, sym}
use Rattle.wire.specs.Reading.{number_at, text_at, repeat_at}
use Rattle.wire.proofs.Parts.{repeat_all}
use Rattle.answer_fields.specs.declared.fields.JobFields.{JobFields}
use Rattle.answer_fields.specs.Fault.{from_wire}
use Rattle.answer_fields.specs.Fields.{AreJobFields, words}
use Rattle.answer_fields.specs.LayoutReading.{length_at, job_at}
use Rattle.answer_fields.specs.LayoutReading as reading

-- how many lengths were read
lengths_count : (n : ℕ) (bytes : List ℕ) (p : List ℕ × List ℕ) → repeat_at length_at n bytes ≡ Ok p → length p.0 ≡ n
lengths_count n bytes p e = (repeat_all length_at (λ x. true) (λ bs q h. refl) n bytes p e).0

pub job_kept : (bytes behind_load behind_text behind_count : List ℕ) (job : JobFields) (rest : List ℕ) → from_wire (number_at 8 bytes) ≡ Ok (job.load, behind_load) → from_wire (text_at 4 behind_load) ≡ Ok (job.text.now, behind_text)
    → from_wire (number_at 4 behind_text) ≡ Ok (job.fragments, behind_count) → repeat_at length_at job.fragments behind_count ≡ Ok (words job.fragments job.cut.now, rest) → length job.cut.now ≡ job.fragments * 4
    → (y : reading.JobFields × List ℕ) × (job_at bytes ≡ Ok y) × (AreJobFields job y.0 × (rest ≡ y.1))
unfolding job_at
job_kept bytes behind_load behind_text behind_count job rest load text count cut size = (
  (record { load = job.load; text = job.text.now; cut = words job.fragments job.cut.now }, rest),
  rw (load, text, count, cut) refl,
  (record { load = refl; text = refl; count = sym (lengths_count job.fragments behind_count (words job.fragments job.cut.now, rest) cut); bytes = size; cut = refl }, refl),
)
