-- Proofs of the goals of `read_coded_texts` (`dictionary::read`).
use Rattle.std.proofs.Common.{◌≡◌, ℕ, ◌*◌, List, [], length, take, drop, map, get_or, ap, ◌∙◌, true}
use Rattle.std.specs.Prelude.{nat_lt}
use Rattle.std.specs.Int.{from_le_bytes, w32}
use Rattle.std.specs.List.{list_all}
use Rattle.std.specs.Simd.{first_chunks}
use Rattle.std.proofs.lemmas.List.{length-map}
use Rattle.meaning.specs.declared.value.ColType.TheVariants as of_type
use Rattle.meaning.specs.declared.value.Value.TheVariants.{Text}
use Rattle.columns.specs.Texts.{texts_from}
use Rattle.blocks.specs.Dictionary.{codes_of, entry_bytes}
use Rattle.blocks.specs.Numbers.{count_of}
use Rattle.blocks.specs.Plain.{ends_of, joined_of}
use Rattle.blocks.specs.Dictionary.{codes_in}
use Rattle.blocks.specs.Plain.{texts_in}
use Rattle.blocks.proofs.ReadBodies.{codes_valid, entries_read}
use Rattle.blocks.proofs.ReadLists.{length-first_chunks}
use Rattle.blocks.proofs.ReadParts.{length-texts_from}
use Rattle.blocks.proofs.dictionary.read.read_coded_texts.Goals as goal

pub returns : goal.returns
returns c =
    let body = c.args.body.now in
    let rows : ℕ = c.args.rows in
    let from : ℕ = c.args.from in
    let n : ℕ = length c.args.out.now in
    let count : ℕ = count_of body in
    let bytes = entry_bytes rows body in
    let codes = codes_of rows body in
    let valid : list_all (λ code. nat_lt code count) codes ≡ true
    = codes_valid of_type.Text rows body c.requires.form in
    let texts : List (List ℕ) = texts_from 0 (ends_of count bytes) (joined_of count bytes) in
    let l : length texts ≡ count
    = length-texts_from 0 (ends_of count bytes) (joined_of count bytes)
    ∙ length-map (first_chunks 4 count bytes) (from_le_bytes w32) ∙ length-first_chunks 4 count bytes in
    let form = c.texts_form.result in
    let e : form.ends.now ≡ first_chunks 4 count bytes
    = c.texts_form.ensures.ends ∙ ap (λ (k : ℕ). first_chunks 4 k c.dictionary_parts.result.0.now) c.leading_count.ensures
    ∙ ap (first_chunks 4 count) c.dictionary_parts.ensures.entries in
    let j : form.joined.now ≡ joined_of count bytes
    = c.texts_form.ensures.joined ∙ ap (λ (k : ℕ). drop (4 * k) c.dictionary_parts.result.0.now) c.leading_count.ensures
    ∙ ap (drop (4 * count)) c.dictionary_parts.ensures.entries in
    ap (map Text) (c.fill_coded_texts.ensures
    ∙ ap (λ ends. take n (drop from (map (λ code. get_or (texts_in ends form.joined.now) code []) (codes_in c.dictionary_parts.result.1.now)))) e
    ∙ ap (λ joined. take n (drop from (map (λ code. get_or (texts_from 0 (ends_of count bytes) joined) code []) (codes_in c.dictionary_parts.result.1.now)))) j
    ∙ ap (λ cs. take n (drop from (map (λ code. get_or texts code []) (codes_in cs)))) c.dictionary_parts.ensures.codes)
    ∙ entries_read Text [] texts count codes n from l valid
