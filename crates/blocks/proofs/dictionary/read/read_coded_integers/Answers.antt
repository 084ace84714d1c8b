-- Proofs of the goals of `read_coded_integers` (`dictionary::read`).
use Rattle.std.proofs.Common.{◌≡◌, ℕ, List, length, take, drop, map, get_or, ap, ◌∙◌, ℤ, pos, true}
use Rattle.std.specs.Prelude.{nat_lt}
use Rattle.std.specs.List.{list_all}
use Rattle.std.specs.Simd.{first_chunks}
use Rattle.std.proofs.lemmas.List.{length-map}
use Rattle.meaning.specs.declared.value.ColType.TheVariants as of_type
use Rattle.meaning.specs.declared.value.Value.TheVariants.{Int}
use Rattle.bit_packing.specs.Bytes.{integer_of, integers}
use Rattle.blocks.specs.Dictionary.{codes_of, entry_bytes}
use Rattle.blocks.specs.Numbers.{count_of}
use Rattle.blocks.specs.Dictionary.{codes_in}
use Rattle.blocks.proofs.ReadBodies.{codes_valid, entries_read}
use Rattle.blocks.proofs.ReadLists.{length-first_chunks}
use Rattle.blocks.proofs.dictionary.read.read_coded_integers.Goals as goal

pub returns : goal.returns
returns c =
    let body = c.args.body.now in
    let rows : ℕ = c.args.rows in
    let from : ℕ = c.args.from in
    let n : ℕ = length c.args.out.now in
    let count : ℕ = count_of body in
    let bytes = entry_bytes rows body in
    let codes = codes_of rows body in
    let valid : list_all (λ code. nat_lt code count) codes ≡ true
    = codes_valid of_type.Int rows body c.requires.form in
    let ints : List ℤ = integers count bytes in
    let l : length ints ≡ count = length-map (first_chunks 8 count bytes) integer_of ∙ length-first_chunks 8 count bytes in
    let e : c.chunks.result.now ≡ first_chunks 8 count bytes
    = c.chunks.ensures.value ∙ ap (λ (k : ℕ). first_chunks 8 k c.dictionary_parts.result.0.now) c.leading_count.ensures
    ∙ ap (first_chunks 8 count) c.dictionary_parts.ensures.entries in
    ap (map Int) (c.fill_coded_integers.ensures
    ∙ ap (λ cells. take n (drop from (map (λ code. get_or (map integer_of cells) code (pos 0)) (codes_in c.dictionary_parts.result.1.now)))) e
    ∙ ap (λ cs. take n (drop from (map (λ code. get_or ints code (pos 0)) (codes_in cs)))) c.dictionary_parts.ensures.codes)
    ∙ entries_read Int (pos 0) ints count codes n from l valid
