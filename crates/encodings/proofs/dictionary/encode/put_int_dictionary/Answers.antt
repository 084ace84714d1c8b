-- Proofs of the goals of `put_int_dictionary` (`dictionary::encode`).
use Rattle.std.proofs.Common.{arith, rules, length, map, ap, ◌∙◌, ◌++◌, ◌≤◌, sym, ◌≡◌, List, ℕ}
use Rattle.std.specs.List.{flat_map}
use Rattle.std.proofs.lemmas.List.{length-map}
use Rattle.meaning.specs.Limits.{row_group_rows}
use Rattle.meaning.specs.declared.value.ColType.TheVariants as of_type
use Rattle.meaning.specs.declared.value.Value.TheVariants.{Int}
use Rattle.blocks.specs.Numbers.{word_bytes, short_bytes, integer_bytes}
use Rattle.blocks.specs.Plain.{ints_at}
use Rattle.blocks.specs.Dictionary.{AreEntries}
use Rattle.encodings.proofs.EncodedBodies.{form_at_ints}
use Rattle.encodings.proofs.EncodedDictionaries.{puts_dictionary}
use Rattle.encodings.proofs.dictionary.encode.put_int_dictionary.Goals as goal

pub overflow_cast-entries : goal.overflow_cast-entries
overflow_cast-entries c =
    let long = length-map c.args.ints.now (λ n. Int n) in
    let d : AreEntries (map Int c.args.ints.now) c.args.dictionary.now.entry_rows.items c.args.dictionary.now.codes.items = c.requires.entries in
    let some = d.few in
    let few : c.len-entries.result ≤ row_group_rows = omega (arith, some, c.args.dictionary.now.entry_rows.ok.0) in
    search rules

pub returns : goal.returns
returns c =
    let long = length-map c.args.ints.now (λ n. Int n) in
    let entry_rows = c.args.dictionary.now.entry_rows.items in
    let codes = c.args.dictionary.now.codes.items in
    let count : c.len-entries.result ≡ length entry_rows = omega (arith, c.len-entries.ensures, c.args.dictionary.now.entry_rows.ok.0) in
    puts_dictionary of_type.Int (map Int c.args.ints.now) entry_rows codes c.args.out.now.items c.put_word.new.out.items c.put_integers_at.new.out.items c.put_shorts.new.out.items c.requires.fit (omega arith) (omega arith) c.requires.entries
    (c.in_ok-put_word.ensures ∙ (ap (λ (n : ℕ). c.make_room.new.out.items ++ word_bytes n) count ∙ ap (λ (xs : List ℕ). xs ++ word_bytes (length entry_rows)) c.make_room.ensures.same))
    (c.in_ok-put_integers_at.ensures ∙ (ap (λ (xs : List ℕ). c.put_word.new.out.items ++ flat_map integer_bytes (ints_at c.args.ints.now xs)) c.as_slice.ensures.value ∙ ap (λ (ys : List ℕ). c.put_word.new.out.items ++ ys) (sym (form_at_ints c.args.ints.now entry_rows))))
    (c.in_ok-put_shorts.ensures ∙ ap (λ (xs : List ℕ). c.put_integers_at.new.out.items ++ flat_map short_bytes xs) c.as_slice-2.ensures.value)
