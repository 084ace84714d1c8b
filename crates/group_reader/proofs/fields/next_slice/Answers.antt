-- Proofs of the goals of `next_slice` (`fields`).
use Rattle.std.proofs.Common.{rules, ◌≡◌, true, false, refl}
use Rattle.std.proofs.lemmas.Result.{err_from_is_err_and}
use Rattle.std.specs.Prelude.{nat_le}
use Rattle.meaning.specs.Limits.{max_rows}
use Rattle.wire.specs.Reading.{number_at}
use Rattle.fragment_file.specs.Fault.{from_wire}
use Rattle.group_reader.specs.Fields.{slice_at}
use Rattle.group_reader.proofs.HeaderSteps.{slice_first, slice_fragment, slice_kept, slice_rows}
use Rattle.group_reader.proofs.Telling.{behind_err, behind_ok, begun, fails_at, finishes, kept_not, kept_test, rejects, step_on}
use Rattle.group_reader.proofs.fields.next_slice.Goals as goal

pub returns-in_err-fragment-clause-read : goal.returns-in_err-fragment-clause-read
returns-in_err-fragment-clause-read g c =
    let p = err_from_is_err_and c.from_residual.result c.from_residual.ensures.1 in
    rw (p.1, p.2) (fails_at (λ rest. from_wire (number_at 4 rest)) slice_fragment _ (begun g.R.Read.remaining c.args.source.now slice_at) (λ rest. refl) c.in_err-fragment.ensures)

pub returns-in_err-first_row-clause-read : goal.returns-in_err-first_row-clause-read
returns-in_err-first_row-clause-read g c =
    let k = c.in_ok-fragment.fragment in
    let s1 = step_on (λ rest. from_wire (number_at 4 rest)) slice_fragment k (begun g.R.Read.remaining c.args.source.now slice_at) (λ rest. refl) c.in_ok-fragment.ensures in
    let p = err_from_is_err_and c.from_residual-in_err-first_row.result c.from_residual-in_err-first_row.ensures.1 in
    rw (p.1, p.2) (fails_at (λ rest. from_wire (number_at 8 rest)) (slice_first k) _ s1 (λ rest. refl) c.in_err-first_row.ensures)

pub returns-in_err-rows-clause-read : goal.returns-in_err-rows-clause-read
returns-in_err-rows-clause-read g c =
    let k = c.in_ok-fragment.fragment in
    let s1 = step_on (λ rest. from_wire (number_at 4 rest)) slice_fragment k (begun g.R.Read.remaining c.args.source.now slice_at) (λ rest. refl) c.in_ok-fragment.ensures in
    let first = c.in_ok-first_row.first_row in
    let s2 = step_on (λ rest. from_wire (number_at 8 rest)) (slice_first k) first s1 (λ rest. refl) c.in_ok-first_row.ensures in
    let p = err_from_is_err_and c.from_residual-in_err-rows.result c.from_residual-in_err-rows.ensures.1 in
    rw (p.1, p.2) (fails_at (λ rest. from_wire (number_at 4 rest)) (slice_kept k first) _ s2 (λ rest. refl) c.in_err-rows.ensures)

pub returns-then-rows-gt-MAX_ROWS-clause-read : goal.returns-then-rows-gt-MAX_ROWS-clause-read
returns-then-rows-gt-MAX_ROWS-clause-read g c =
    let k = c.in_ok-fragment.fragment in
    let s1 = step_on (λ rest. from_wire (number_at 4 rest)) slice_fragment k (begun g.R.Read.remaining c.args.source.now slice_at) (λ rest. refl) c.in_ok-fragment.ensures in
    let first = c.in_ok-first_row.first_row in
    let s2 = step_on (λ rest. from_wire (number_at 8 rest)) (slice_first k) first s1 (λ rest. refl) c.in_ok-first_row.ensures in
    let rows = c.in_ok-rows.rows in
    let s3 = step_on (λ rest. from_wire (number_at 4 rest)) (slice_kept k first) rows s2 (λ rest. refl) c.in_ok-rows.ensures in
    let wrong : nat_le rows max_rows ≡ false = search rules in
    rejects _ s3 (λ rest. behind_err (slice_rows k first) (kept_not _ (rows, rest) wrong))

pub returns-clause-read : goal.returns-clause-read
returns-clause-read g c =
    let k = c.in_ok-fragment.fragment in
    let s1 = step_on (λ rest. from_wire (number_at 4 rest)) slice_fragment k (begun g.R.Read.remaining c.args.source.now slice_at) (λ rest. refl) c.in_ok-fragment.ensures in
    let first = c.in_ok-first_row.first_row in
    let s2 = step_on (λ rest. from_wire (number_at 8 rest)) (slice_first k) first s1 (λ rest. refl) c.in_ok-first_row.ensures in
    let rows = c.in_ok-rows.rows in
    let s3 = step_on (λ rest. from_wire (number_at 4 rest)) (slice_kept k first) rows s2 (λ rest. refl) c.in_ok-rows.ensures in
    let kept : nat_le rows max_rows ≡ true = search rules in
    finishes _ s3 (λ rest. behind_ok (slice_rows k first) (kept_test _ (rows, rest) kept))
