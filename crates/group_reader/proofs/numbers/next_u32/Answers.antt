-- Proofs of the goals of `next_u32` (`numbers`).
use Rattle.std.proofs.Common.{◌++◌, ℕ, Ok, ap, sym, ◌∙◌}
use Rattle.std.proofs.lemmas.Result.{err_from_is_err_and}
use Rattle.group_reader.proofs.Words.{number_read, number_failed}
use Rattle.group_reader.proofs.numbers.next_u32.Goals as goal

pub returns-in_err-next_bytes : goal.returns-in_err-next_bytes
returns-in_err-next_bytes g c =
    let p = err_from_is_err_and c.from_residual.result c.from_residual.ensures.1 in
    rw (p.1, p.2) (λ no_memory no_device.
    let wrong = c.in_err-next_bytes.ensures no_memory no_device in
    (wrong.0, wrong.1, number_failed 4 wrong.0 _ wrong.2))

pub returns : goal.returns
returns g c =
    let took = c.in_ok-next_bytes.ensures in
    (took.0, took.1, (λ rest. number_read 4 (took.0 ++ rest) c.next_bytes.new.out rest (took.2 rest) ∙ ap (λ (n : ℕ). Ok (n, rest)) (sym c.read_u32.ensures)))
