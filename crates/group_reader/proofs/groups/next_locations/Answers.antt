-- Proofs of the goals of `next_locations` (`groups`).
use Rattle.std.proofs.lemmas.Bool.{eq-eqb, ne_eqb}
use Rattle.std.proofs.lemmas.Result.{err_from_is_err_and}
use Rattle.wire.specs.Reading.{number_at}
use Rattle.fragment_file.specs.Fault.{from_wire}
use Rattle.fragment_file.specs.FragmentReading.{blocks_at, group_at}
use Rattle.group_reader.proofs.BlockSteps.{behind_kept, behind_stated, group_start}
use Rattle.group_reader.proofs.Telling.{behind_err, behind_ok, begun, fails_at, formed_not, formed_test, rejects, step_on, told_as}
use Rattle.group_reader.proofs.groups.next_locations.Goals as goal

pub returns-in_err-stated-clause-read : goal.returns-in_err-stated-clause-read
returns-in_err-stated-clause-read g c =
    let a = c.args in
    let p = err_from_is_err_and c.from_residual.result c.from_residual.ensures.1 in
    rw (p.1, p.2) (fails_at (λ rest. from_wire (number_at 4 rest)) (behind_stated a.group a.columns.now a.rows) _ (begun g.R.Read.remaining c.args.source.now (group_at a.group a.columns.now a.rows)) (group_start a.group a.columns.now a.rows) c.in_err-stated.ensures)

pub returns-then-stated-rows-clause-read : goal.returns-then-stated-rows-clause-read
returns-then-stated-rows-clause-read g c =
    let a = c.args in
    let stated = c.in_ok-stated.stated in
    let s1 = step_on (λ rest. from_wire (number_at 4 rest)) (behind_stated a.group a.columns.now a.rows) stated (begun g.R.Read.remaining c.args.source.now (group_at a.group a.columns.now a.rows)) (group_start a.group a.columns.now a.rows) c.in_ok-stated.ensures in
    rejects _ s1 (λ rest. behind_err (behind_kept a.group a.columns.now a.rows) (formed_not _ (stated, rest) (ne_eqb stated a.rows c.if-stated-rows.true)))

pub returns-clause-read : goal.returns-clause-read
returns-clause-read g c =
    let a = c.args in
    let stated = c.in_ok-stated.stated in
    let s1 = step_on (λ rest. from_wire (number_at 4 rest)) (behind_stated a.group a.columns.now a.rows) stated (begun g.R.Read.remaining c.args.source.now (group_at a.group a.columns.now a.rows)) (group_start a.group a.columns.now a.rows) c.in_ok-stated.ensures in
    told_as _ _ c.next_blocks.result (blocks_at a.group 0 a.columns.now a.rows) s1 (λ rest. behind_ok (behind_kept a.group a.columns.now a.rows) (formed_test _ (stated, rest) (eq-eqb stated a.rows c.if-stated-rows.false))) c.next_blocks.ensures.read
