-- Proofs of the goals of `next_name` (`fields`).
use Rattle.std.proofs.Common.{rules, ◌≡◌, ◌++◌, true, false, refl}
use Rattle.std.proofs.lemmas.Result.{err_from_is_err_and}
use Rattle.std.specs.Prelude.{nat_le, ◌&&◌}
use Rattle.meaning.specs.Limits.{max_name_bytes}
use Rattle.meaning.specs.Catalog.{is_name}
use Rattle.wire.specs.Reading.{bytes_at, number_at}
use Rattle.fragment_file.specs.Fault.{from_wire}
use Rattle.fragment_file.specs.FragmentReading.{name_at}
use Rattle.group_reader.proofs.HeaderSteps.{given_told, name_count, name_kept, name_read, name_start}
use Rattle.group_reader.proofs.Pieces.{word_failed, word_read}
use Rattle.group_reader.proofs.Telling.{behind_err, behind_ok, begun, fails_at, formed_not, formed_test, kept_not, kept_test, passes, rejects, step_on}
use Rattle.group_reader.proofs.fields.next_name.Goals as goal

pub returns-in_err-length-clause-read : goal.returns-in_err-length-clause-read
returns-in_err-length-clause-read g c =
    let p = err_from_is_err_and c.from_residual.result c.from_residual.ensures.1 in
    rw (p.1, p.2) (fails_at (λ rest. from_wire (number_at 2 rest)) name_count _ (begun g.R.Read.remaining c.args.source.now name_at) name_start c.in_err-length.ensures)

pub returns-then-not-is_1_to-clause-read : goal.returns-then-not-is_1_to-clause-read
returns-then-not-is_1_to-clause-read g c =
    let n = c.in_ok-length.length in
    let s1 = step_on (λ rest. from_wire (number_at 2 rest)) name_count n (begun g.R.Read.remaining c.args.source.now name_at) name_start c.in_ok-length.ensures in
    let wrong : (nat_le 1 n && nat_le n max_name_bytes) ≡ false = search rules in
    rejects _ s1 (λ rest. behind_err name_kept (kept_not _ (n, rest) wrong))

pub returns-in_err-next_payload-clause-read : goal.returns-in_err-next_payload-clause-read
returns-in_err-next_payload-clause-read g c =
    let n = c.in_ok-length.length in
    let p = err_from_is_err_and c.from_residual-in_err-next_payload.result c.from_residual-in_err-next_payload.ensures.1 in
    let s1 = step_on (λ rest. from_wire (number_at 2 rest)) name_count n (begun g.R.Read.remaining c.args.source.now name_at) name_start c.in_ok-length.ensures in
    let k1 : (nat_le 1 n && nat_le n max_name_bytes) ≡ true = search rules in
    let s2 = passes (λ rest. name_kept (n, rest)) s1 (λ rest. behind_ok name_kept (kept_test _ (n, rest) k1)) in
    rw (p.1, p.2) (fails_at (λ rest. from_wire (bytes_at n rest)) name_read _ s2 (λ rest. refl) (λ no_memory no_device.
    let wrong = c.in_err-next_payload.ensures.read no_memory no_device in
    (wrong.0, wrong.1, word_failed wrong.0 c.from-2.result n _ c.from-2.ensures wrong.2)))

pub returns-then-not-is_name-clause-read : goal.returns-then-not-is_name-clause-read
returns-then-not-is_name-clause-read g c =
    let n = c.in_ok-length.length in
    let word = c.next_payload.new.bytes.items in
    let s1 = step_on (λ rest. from_wire (number_at 2 rest)) name_count n (begun g.R.Read.remaining c.args.source.now name_at) name_start c.in_ok-length.ensures in
    let k1 : (nat_le 1 n && nat_le n max_name_bytes) ≡ true = search rules in
    let s2 = passes (λ rest. name_kept (n, rest)) s1 (λ rest. behind_ok name_kept (kept_test _ (n, rest) k1)) in
    let took = c.in_ok-next_payload.ensures.read in
    let s3 = step_on (λ rest. from_wire (bytes_at n rest)) name_read word s2 (λ rest. refl)
    (took.0, took.1, (λ rest. word_read _ word (took.0 ++ rest) rest c.from-2.result n c.from-2.ensures c.new-word.ensures.items (took.2 rest))) in
    let wrong : is_name word ≡ false = search rules in
    rejects _ s3 (λ rest. formed_not (is_name word) (word, rest) wrong)

pub returns-clause-read : goal.returns-clause-read
returns-clause-read g c =
    let n = c.in_ok-length.length in
    let word = c.next_payload.new.bytes.items in
    let s1 = step_on (λ rest. from_wire (number_at 2 rest)) name_count n (begun g.R.Read.remaining c.args.source.now name_at) name_start c.in_ok-length.ensures in
    let k1 : (nat_le 1 n && nat_le n max_name_bytes) ≡ true = search rules in
    let s2 = passes (λ rest. name_kept (n, rest)) s1 (λ rest. behind_ok name_kept (kept_test _ (n, rest) k1)) in
    let took = c.in_ok-next_payload.ensures.read in
    let s3 = step_on (λ rest. from_wire (bytes_at n rest)) name_read word s2 (λ rest. refl)
    (took.0, took.1, (λ rest. word_read _ word (took.0 ++ rest) rest c.from-2.result n c.from-2.ensures c.new-word.ensures.items (took.2 rest))) in
    let formed_word : is_name word ≡ true = search rules in
    given_told _ c.text_of.result word s3 (λ rest. formed_test (is_name word) (word, rest) formed_word) (rw c.as_slice-2.ensures.value at c.text_of.ensures)
