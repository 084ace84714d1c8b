-- Proofs of the goals of `put_text_dictionary` (`dictionary::encode`).
use Rattle.std.proofs.Common.{arith, rules, length, map, take, drop, ap, ◌∙◌, ◌++◌, ◌-◌, ◌≤◌, sym, ◌≡◌, List, ℕ}
use Rattle.std.specs.List.{flat_map}
use Rattle.meaning.specs.Limits.{row_group_rows}
use Rattle.meaning.specs.declared.value.ColType.TheVariants as of_type
use Rattle.meaning.specs.declared.value.Value.TheVariants.{Text}
use Rattle.blocks.specs.Numbers.{word_bytes, short_bytes}
use Rattle.blocks.specs.Plain.{texts_at}
use Rattle.blocks.specs.Dictionary.{AreEntries}
use Rattle.encodings.proofs.EncodedBodies.{form_at_texts, laid_texts}
use Rattle.encodings.proofs.EncodedDictionaries.{puts_dictionary}
use Rattle.encodings.proofs.EncodedRuns.{rows_of}
use Rattle.encodings.proofs.dictionary.encode.put_text_dictionary.Goals as goal

pub overflow_cast-len : goal.overflow_cast-len
overflow_cast-len c =
    let long = rows_of c.args.texts.now c.args.from c.args.to c.requires.within in
    let d : AreEntries (map Text (take (c.args.to - c.args.from) (drop c.args.from c.args.texts.now))) c.args.dictionary.now.entry_rows.items c.args.dictionary.now.codes.items = c.requires.entries in
    let some = d.few in
    let few : c.len.result ≤ row_group_rows = omega (arith, some, c.args.dictionary.now.entry_rows.ok.0) in
    search rules

pub returns : goal.returns
returns c =
    let long = rows_of c.args.texts.now c.args.from c.args.to c.requires.within in
    let entry_rows = c.args.dictionary.now.entry_rows.items in
    let codes = c.args.dictionary.now.codes.items in
    let count : c.len.result ≡ length entry_rows = omega (arith, c.len.ensures, c.args.dictionary.now.entry_rows.ok.0) in
    puts_dictionary of_type.Text (map Text (take (c.args.to - c.args.from) (drop c.args.from c.args.texts.now))) entry_rows codes c.args.out.now.items c.put_word.new.out.items c.put_texts_at.new.out.items c.put_shorts.new.out.items c.requires.fit (omega arith) (omega arith) c.requires.entries
    (c.in_ok-put_word.ensures ∙ ap (λ (n : ℕ). c.args.out.now.items ++ word_bytes n) count)
    (c.in_ok-put_texts_at.ensures ∙ (ap (λ (xs : List ℕ). c.put_word.new.out.items ++ laid_texts (texts_at (take (c.args.to - c.args.from) (drop c.args.from c.args.texts.now)) xs)) c.as_slice.ensures.value ∙ ap (λ (ys : List ℕ). c.put_word.new.out.items ++ ys) (sym (form_at_texts (take (c.args.to - c.args.from) (drop c.args.from c.args.texts.now)) entry_rows))))
    (c.in_ok-put_shorts.ensures ∙ ap (λ (xs : List ℕ). c.put_texts_at.new.out.items ++ flat_map short_bytes xs) c.as_slice-2.ensures.value)

pub put_texts_at-requires-clause-few : goal.put_texts_at-requires-clause-few
put_texts_at-requires-clause-few c =
    let long = rows_of c.args.texts.now c.args.from c.args.to c.requires.within in
    let d : AreEntries (map Text (take (c.args.to - c.args.from) (drop c.args.from c.args.texts.now))) c.args.dictionary.now.entry_rows.items c.args.dictionary.now.codes.items = c.requires.entries in
    let some = d.few in
    let same = ap length c.as_slice.ensures.value in
    omega arith
