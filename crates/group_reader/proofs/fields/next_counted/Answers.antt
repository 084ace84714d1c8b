-- Proofs of the goals of `next_counted` (`fields`).
use Rattle.std.proofs.Common.{rules, ◌≡◌, true, false, [], refl}
use Rattle.std.proofs.lemmas.Result.{err_from_is_err_and}
use Rattle.std.specs.Prelude.{nat_le, ◌&&◌}
use Rattle.meaning.specs.Limits.{max_columns}
use Rattle.wire.specs.Reading.{number_at}
use Rattle.fragment_file.specs.Fault.{from_wire}
use Rattle.fragment_file.specs.FragmentReading.{columns_at}
use Rattle.group_reader.specs.Fields.{counted_at}
use Rattle.group_reader.proofs.HeaderSteps.{counted_count, counted_kept}
use Rattle.group_reader.proofs.Telling.{behind_err, behind_ok, begun, fails_at, kept_not, kept_test, rejects, step_on, told_as}
use Rattle.group_reader.proofs.fields.next_counted.Goals as goal

pub returns-in_err-count-clause-read : goal.returns-in_err-count-clause-read
returns-in_err-count-clause-read g c =
    let p = err_from_is_err_and c.from_residual.result c.from_residual.ensures.1 in
    rw (p.1, p.2) (fails_at (λ rest. from_wire (number_at 2 rest)) counted_count _ (begun g.R.Read.remaining c.args.source.now counted_at) (λ rest. refl) c.in_err-count.ensures)

pub returns-then-not-is_1_to-clause-read : goal.returns-then-not-is_1_to-clause-read
returns-then-not-is_1_to-clause-read g c =
    let n = c.in_ok-count.count in
    let s1 = step_on (λ rest. from_wire (number_at 2 rest)) counted_count n (begun g.R.Read.remaining c.args.source.now counted_at) (λ rest. refl) c.in_ok-count.ensures in
    let wrong : (nat_le 1 n && nat_le n max_columns) ≡ false = search rules in
    rejects _ s1 (λ rest. behind_err counted_kept (kept_not _ (n, rest) wrong))

pub returns-clause-read : goal.returns-clause-read
returns-clause-read g c =
    let n = c.in_ok-count.count in
    let s1 = step_on (λ rest. from_wire (number_at 2 rest)) counted_count n (begun g.R.Read.remaining c.args.source.now counted_at) (λ rest. refl) c.in_ok-count.ensures in
    let k1 : (nat_le 1 n && nat_le n max_columns) ≡ true = search rules in
    told_as _ _ c.next_columns.result (columns_at n []) s1 (λ rest. behind_ok counted_kept (kept_test _ (n, rest) k1)) c.next_columns.ensures.read
