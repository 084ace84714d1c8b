-- Proofs of the goals of `put_int_runs` (`runs::encode`).
use Rattle.std.proofs.Common.{arith, rules, length, map, ap, ◌∙◌, ◌++◌, ◌≤◌, sym, ◌≡◌, List, ℕ}
use Rattle.std.specs.List.{flat_map}
use Rattle.std.proofs.lemmas.List.{length-map}
use Rattle.meaning.specs.Limits.{row_group_rows}
use Rattle.meaning.specs.declared.value.ColType.TheVariants as of_type
use Rattle.meaning.specs.declared.value.Value.TheVariants.{Int}
use Rattle.blocks.specs.Numbers.{word_bytes, short_bytes, integer_bytes}
use Rattle.blocks.specs.Plain.{ints_at}
use Rattle.encodings.proofs.EncodedBodies.{puts_runs, runs_few, form_at_ints}
use Rattle.encodings.proofs.runs.encode.put_int_runs.Goals as goal

pub overflow_cast-len : goal.overflow_cast-len
overflow_cast-len c =
    let long = length-map c.args.ints.now (λ n. Int n) in
    let some = runs_few (map Int c.args.ints.now) _ _ c.requires.runs in
    let few : c.len-2.result ≤ row_group_rows = omega (arith, some, c.args.runs.now.starts.ok.0) in
    search rules

pub returns : goal.returns
returns c =
    let long = length-map c.args.ints.now (λ n. Int n) in
    let starts = c.args.runs.now.starts.items in
    let lengths = c.args.runs.now.lengths.items in
    let count : c.len-2.result ≡ length starts = omega (arith, c.len-2.ensures, c.args.runs.now.starts.ok.0) in
    puts_runs of_type.Int (map Int c.args.ints.now) starts lengths c.args.out.now.items c.put_word.new.out.items c.put_shorts.new.out.items c.put_integers_at.new.out.items c.requires.fit (omega arith) (omega arith) c.requires.runs
    (c.in_ok-put_word.ensures ∙ (ap (λ (n : ℕ). c.make_room.new.out.items ++ word_bytes n) count ∙ ap (λ (xs : List ℕ). xs ++ word_bytes (length starts)) c.make_room.ensures.same))
    (c.in_ok-put_shorts.ensures ∙ ap (λ (xs : List ℕ). c.put_word.new.out.items ++ flat_map short_bytes xs) c.as_slice.ensures.value)
    (c.in_ok-put_integers_at.ensures ∙ (ap (λ (xs : List ℕ). c.put_shorts.new.out.items ++ flat_map integer_bytes (ints_at c.args.ints.now xs)) c.as_slice-2.ensures.value ∙ ap (λ (ys : List ℕ). c.put_shorts.new.out.items ++ ys) (sym (form_at_ints c.args.ints.now starts))))
