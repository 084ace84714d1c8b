-- Proofs of the goals of `read_front` (`front`).
use Rattle.std.proofs.Common.{◌≡◌}
use Rattle.std.proofs.lemmas.Result.{err_from_is_err_and}
use Rattle.wire.specs.Reading.{bytes_at}
use Rattle.fragment_file.specs.Fault.{from_wire}
use Rattle.fragment_file.specs.Fragment.{fragment_magic}
use Rattle.fragment_file.specs.FragmentReading.{header_at}
use Rattle.group_reader.specs.Coming.{header_read}
use Rattle.group_reader.proofs.FrontSteps.{behind_front, front_start, other_magic, right_magic, wrong_magic}
use Rattle.group_reader.proofs.Telling.{begun, fails_at, rejects, step_on, told_as}
use Rattle.group_reader.proofs.front.read_front.Goals as goal

pub returns-in_err-next_bytes-clause-read : goal.returns-in_err-next_bytes-clause-read
returns-in_err-next_bytes-clause-read g c =
    let p = err_from_is_err_and c.from_residual.result c.from_residual.ensures.1 in
    rw (p.1, p.2) (fails_at (λ rest. from_wire (bytes_at 4 rest)) behind_front _ (begun g.R.Read.remaining c.args.source.now header_read) front_start c.in_err-next_bytes.ensures)

pub returns-then-ne-clause-read : goal.returns-then-ne-clause-read
unfolding fragment_magic
returns-then-ne-clause-read g c =
    let magic = c.next_bytes.new.out in
    let test : c.ne.result ≡ other_magic magic = rw (c.as_slice.ensures, c.as_slice-2.ensures) at c.ne.ensures in
    let one = step_on (λ rest. from_wire (bytes_at 4 rest)) behind_front magic (begun g.R.Read.remaining c.args.source.now header_read) front_start c.in_ok-next_bytes.ensures in
    rejects _ one (λ rest. wrong_magic magic rest c.ne.result test c.if-ne.true)

pub returns-clause-read : goal.returns-clause-read
unfolding fragment_magic
returns-clause-read g c =
    let magic = c.next_bytes.new.out in
    let test : c.ne.result ≡ other_magic magic = rw (c.as_slice.ensures, c.as_slice-2.ensures) at c.ne.ensures in
    let one = step_on (λ rest. from_wire (bytes_at 4 rest)) behind_front magic (begun g.R.Read.remaining c.args.source.now header_read) front_start c.in_ok-next_bytes.ensures in
    told_as _ _ c.next_header.result header_at one (λ rest. right_magic magic rest c.ne.result test c.if-ne.false) c.next_header.ensures.read
