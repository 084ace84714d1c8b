-- Proofs of the goals of `dictionary_of_ints_within` (`dictionary::within`).
use Rattle.std.proofs.Common.{◌≡◌, ◌*◌, ◌∙◌, ap, sym, subst, length, arith, map}
use Rattle.std.proofs.lemmas.List.{length-map}
use Rattle.meaning.specs.declared.value.ColType.TheVariants as of_type
use Rattle.meaning.specs.declared.value.Value.TheVariants.{Int}
use Rattle.encodings.specs.Choice.{IsDictionaryWithin}
use Rattle.encodings.proofs.ChosenKinds.{dictionary_size, ints_form, least_dictionary}
use Rattle.encodings.proofs.dictionary.within.dictionary_of_ints_within.Goals as goal

pub returns-then-most-beside : goal.returns-then-most-beside
returns-then-most-beside c =
    let long = length-map c.args.ints.now (λ n. Int n) in
    let least = least_dictionary (map Int c.args.ints.now) (omega arith) in
    omega (arith, least, long)

pub returns : goal.returns
returns c =
    let cells = map Int c.args.ints.now in
    let long = length-map c.args.ints.now (λ n. Int n) in
    let entry_rows = c.in_ok-dictionary.dictionary.entry_rows.items in
    let codes = c.in_ok-dictionary.dictionary.codes.items in
    let count : c.len.result ≡ length entry_rows = omega (arith, c.len.ensures, c.in_ok-dictionary.dictionary.entry_rows.ok.0) in
    let size = dictionary_size of_type.Int cells entry_rows codes (8 * c.len.result) (length c.args.ints.now) c.in_ok-dictionary.ensures (ap (λ n. 8 * n) count ∙ ints_form c.args.ints.now entry_rows) (sym long) in
    subst (λ n. IsDictionaryWithin cells n c.args.most c.kept.result) size (c.kept.ensures cells c.in_ok-dictionary.ensures)
