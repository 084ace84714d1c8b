-- Proofs of the goals of `next_flag` (`fields`).
use Rattle.std.proofs.Common.{refl}
use Rattle.std.proofs.lemmas.Result.{err_from_is_err_and}
use Rattle.wire.specs.Reading.{number_at}
use Rattle.fragment_file.specs.Fault.{from_wire}
use Rattle.group_reader.specs.Fields.{flag_at}
use Rattle.group_reader.proofs.HeaderSteps.{flag_behind}
use Rattle.group_reader.proofs.Telling.{begun, fails_at, judged_told, step_on}
use Rattle.group_reader.proofs.fields.next_flag.Goals as goal

pub returns-in_err-code : goal.returns-in_err-code
returns-in_err-code g c =
    let p = err_from_is_err_and c.from_residual.result c.from_residual.ensures.1 in
    rw (p.1, p.2) (fails_at (λ rest. from_wire (number_at 1 rest)) flag_behind _ (begun g.R.Read.remaining c.args.source.now flag_at) (λ rest. refl) c.in_err-code.ensures)

pub returns : goal.returns
returns g c =
    let s1 = step_on (λ rest. from_wire (number_at 1 rest)) flag_behind c.in_ok-code.code (begun g.R.Read.remaining c.args.source.now flag_at) (λ rest. refl) c.in_ok-code.ensures in
    judged_told _ c.flag_of.result _ s1 (λ rest. refl) c.flag_of.ensures
