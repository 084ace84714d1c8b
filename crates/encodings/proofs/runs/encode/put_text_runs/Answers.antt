-- Proofs of the goals of `put_text_runs` (`runs::encode`).
use Rattle.std.proofs.Common.{arith, rules, length, map, take, drop, ap, ◌∙◌, ◌++◌, ◌-◌, ◌≤◌, sym, ◌≡◌, List, ℕ}
use Rattle.std.specs.List.{flat_map}
use Rattle.meaning.specs.Limits.{row_group_rows}
use Rattle.meaning.specs.declared.value.ColType.TheVariants as of_type
use Rattle.meaning.specs.declared.value.Value.TheVariants.{Text}
use Rattle.blocks.specs.Numbers.{word_bytes, short_bytes}
use Rattle.blocks.specs.Plain.{texts_at}
use Rattle.encodings.proofs.EncodedBodies.{puts_runs, runs_few, form_at_texts, laid_texts}
use Rattle.encodings.proofs.EncodedRuns.{rows_of}
use Rattle.encodings.proofs.runs.encode.put_text_runs.Goals as goal

pub overflow_cast-len : goal.overflow_cast-len
overflow_cast-len c =
    let long = rows_of c.args.texts.now c.args.from c.args.to c.requires.within in
    let some = runs_few (map Text (take (c.args.to - c.args.from) (drop c.args.from c.args.texts.now))) _ _ c.requires.runs in
    let few : c.len.result ≤ row_group_rows = omega (arith, some, c.args.runs.now.starts.ok.0) in
    search rules

pub returns : goal.returns
returns c =
    let long = rows_of c.args.texts.now c.args.from c.args.to c.requires.within in
    let starts = c.args.runs.now.starts.items in
    let lengths = c.args.runs.now.lengths.items in
    let count : c.len.result ≡ length starts = omega (arith, c.len.ensures, c.args.runs.now.starts.ok.0) in
    puts_runs of_type.Text (map Text (take (c.args.to - c.args.from) (drop c.args.from c.args.texts.now))) starts lengths c.args.out.now.items c.put_word.new.out.items c.put_shorts.new.out.items c.put_texts_at.new.out.items c.requires.fit (omega arith) (omega arith) c.requires.runs
    (c.in_ok-put_word.ensures ∙ ap (λ (n : ℕ). c.args.out.now.items ++ word_bytes n) count)
    (c.in_ok-put_shorts.ensures ∙ ap (λ (xs : List ℕ). c.put_word.new.out.items ++ flat_map short_bytes xs) c.as_slice.ensures.value)
    (c.in_ok-put_texts_at.ensures ∙ (ap (λ (xs : List ℕ). c.put_shorts.new.out.items ++ laid_texts (texts_at (take (c.args.to - c.args.from) (drop c.args.from c.args.texts.now)) xs)) c.as_slice-2.ensures.value ∙ ap (λ (ys : List ℕ). c.put_shorts.new.out.items ++ ys) (sym (form_at_texts (take (c.args.to - c.args.from) (drop c.args.from c.args.texts.now)) starts))))

pub put_texts_at-requires-clause-few : goal.put_texts_at-requires-clause-few
put_texts_at-requires-clause-few c =
    let long = rows_of c.args.texts.now c.args.from c.args.to c.requires.within in
    let some = runs_few (map Text (take (c.args.to - c.args.from) (drop c.args.from c.args.texts.now))) _ _ c.requires.runs in
    let same = ap length c.as_slice-2.ensures.value in
    omega arith
