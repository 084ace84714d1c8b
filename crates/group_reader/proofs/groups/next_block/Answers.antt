-- Proofs of the goals of `next_block` (`groups`).
use Rattle.std.proofs.Common.{rules, ◌≡◌, ◌<◌, ◌^◌, length, drop, refl, sym, subst, arith}
use Rattle.std.proofs.lemmas.Result.{err_from_is_err_and}
use Rattle.wire.specs.Reading.{bytes_at, number_at}
use Rattle.fragment_file.specs.Fault.{from_wire}
use Rattle.fragment_file.specs.FragmentReading.{block_at}
use Rattle.group_reader.proofs.BlockSteps.{behind_code, behind_length, behind_payload, block_start, judged_behind, judged_block}
use Rattle.group_reader.proofs.Pieces.{length_behind}
use Rattle.group_reader.proofs.Telling.{begun, fails_at, step_on}
use Rattle.group_reader.proofs.groups.next_block.Goals as goal

pub returns-in_err-code-clause-read : goal.returns-in_err-code-clause-read
returns-in_err-code-clause-read g c =
    let a = c.args in
    let p = err_from_is_err_and c.from_residual.result c.from_residual.ensures.1 in
    rw (p.1, p.2) (fails_at (λ rest. from_wire (number_at 1 rest)) (behind_code a.group a.column a.of.now a.rows) _ (begun g.R.Read.remaining c.args.source.now (block_at a.group a.column a.of.now a.rows)) (block_start a.group a.column a.of.now a.rows) c.in_err-code.ensures)

pub returns-in_err-length-clause-read : goal.returns-in_err-length-clause-read
returns-in_err-length-clause-read g c =
    let a = c.args in
    let code = c.in_ok-code.code in
    let s1 = step_on (λ rest. from_wire (number_at 1 rest)) (behind_code a.group a.column a.of.now a.rows) code (begun g.R.Read.remaining c.args.source.now (block_at a.group a.column a.of.now a.rows)) (block_start a.group a.column a.of.now a.rows) c.in_ok-code.ensures in
    let p = err_from_is_err_and c.from_residual-in_err-length.result c.from_residual-in_err-length.ensures.1 in
    rw (p.1, p.2) (fails_at (λ rest. from_wire (number_at 4 rest)) (behind_length a.group a.column code a.of.now a.rows) _ s1 (λ rest. refl) c.in_err-length.ensures)

pub returns-in_err-next_payload-clause-read : goal.returns-in_err-next_payload-clause-read
returns-in_err-next_payload-clause-read g c =
    let a = c.args in
    let code = c.in_ok-code.code in
    let s1 = step_on (λ rest. from_wire (number_at 1 rest)) (behind_code a.group a.column a.of.now a.rows) code (begun g.R.Read.remaining c.args.source.now (block_at a.group a.column a.of.now a.rows)) (block_start a.group a.column a.of.now a.rows) c.in_ok-code.ensures in
    let count = c.in_ok-length.length in
    let s2 = step_on (λ rest. from_wire (number_at 4 rest)) (behind_length a.group a.column code a.of.now a.rows) count s1 (λ rest. refl) c.in_ok-length.ensures in
    let p = err_from_is_err_and c.from_residual-in_err-next_payload.result c.from_residual-in_err-next_payload.ensures.1 in
    rw (p.1, p.2) (fails_at (λ rest. from_wire (bytes_at count rest)) (behind_payload a.group a.column code a.of.now a.rows) _ s2 (λ rest. refl) c.in_err-next_payload.ensures.read)

pub returns-clause-block : goal.returns-clause-block
returns-clause-block g c =
    let a = c.args in
    let old = a.bytes.now.items in
    let new = c.next_payload.new.bytes.items in
    let from : c.len-start.result ≡ length old = search rules in
    let slice : c.as_slice.result.now ≡ new = search rules in
    let below : c.in_ok-length.length < 2 ^ 32 = search rules in
    let long = length_behind old new c.in_ok-length.length c.in_ok-next_payload.ensures.more in
    let behind_old : length (drop (length old) new) < 2 ^ 32 = omega (arith, long, below) in
    let short : length (drop c.len-start.result new) < 2 ^ 32 = subst (λ n. length (drop n new) < 2 ^ 32) (sym from) behind_old in
    judged_block a.group a.column c.in_ok-code.code a.of.now a.rows c.len-start.result new c.as_slice.result.now c.judge.result slice short c.judge.ensures.read

pub returns-clause-read : goal.returns-clause-read
returns-clause-read g c =
    let a = c.args in
    let code = c.in_ok-code.code in
    let s1 = step_on (λ rest. from_wire (number_at 1 rest)) (behind_code a.group a.column a.of.now a.rows) code (begun g.R.Read.remaining c.args.source.now (block_at a.group a.column a.of.now a.rows)) (block_start a.group a.column a.of.now a.rows) c.in_ok-code.ensures in
    let count = c.in_ok-length.length in
    let s2 = step_on (λ rest. from_wire (number_at 4 rest)) (behind_length a.group a.column code a.of.now a.rows) count s1 (λ rest. refl) c.in_ok-length.ensures in
    let old = a.bytes.now.items in
    let new = c.next_payload.new.bytes.items in
    let from : c.len-start.result ≡ length old = search rules in
    let slice : c.as_slice.result.now ≡ new = search rules in
    let s3 = step_on (λ rest. from_wire (bytes_at count rest)) (behind_payload a.group a.column code a.of.now a.rows) (drop (length old) new) s2 (λ rest. refl) c.in_ok-next_payload.ensures.read in
    judged_behind a.group a.column code a.of.now a.rows c.len-start.result old new c.as_slice.result.now c.judge.result s3 (λ rest. refl) from slice c.judge.ensures.read
