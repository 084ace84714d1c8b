-- Proofs of the goals of `are_null_offsets_blank` (`frame::check`).
use Rattle.std.proofs.Common.{◌≡◌, ℕ, ◌||◌, ◌==◌, ℤ, pos, ◌+ℤ◌, true, not, List, to_z, of_z, sym, ap, ◌∙◌, rules}
use Rattle.std.specs.Int.{w64}
use Rattle.std.specs.Int.RustNames.{FitsSigned}
use Rattle.std.specs.List.{list_all, range_with_len}
use Rattle.std.proofs.lemmas.Int.{to_z-of_z}
use Rattle.std.proofs.lemmas.List.{take_rest}
use Rattle.meaning.specs.Operators.{fits_i64}
use Rattle.meaning.specs.declared.value.Value.TheVariants.{Int}
use Rattle.bit_packing.specs.Bits.{bit_at}
use Rattle.bit_packing.specs.Offsets.{offset_at}
use Rattle.blocks.specs.Block.{is_blank}
use Rattle.blocks.specs.Frame.{base_of, width_of}
use Rattle.blocks.proofs.FrameNulls.{marked_are_blank}
use Rattle.blocks.proofs.frame.check.are_null_offsets_blank.Goals as goal

pub returns : goal.returns
returns c =
    let body = c.args.body.now in
    let fits : FitsSigned w64 c.integer_at.result = search rules in
    let base : to_z w64 (of_z w64 c.integer_at.result) ≡ base_of body = to_z-of_z w64 c.integer_at.result fits ∙ c.integer_at.ensures in
    let leads : (offset : ℕ) → fits_i64 (base_of body +ℤ pos offset) ≡ true → is_blank (Int (base_of body +ℤ pos offset)) ≡ (offset == c.offset_to_zero.result) = λ offset fit. ap (λ (b : ℤ). is_blank (Int (b +ℤ pos offset))) (sym base) ∙ c.offset_to_zero.ensures offset (ap (λ (b : ℤ). fits_i64 (b +ℤ pos offset)) base ∙ fit) in
    c.are_marked.ensures
    ∙ ap (λ (packed : List ℕ). list_all (λ i. not (bit_at c.args.mask.now i) || offset_at (width_of body) packed i == c.offset_to_zero.result) (range_with_len 0 c.args.rows)) (take_rest body 9)
    ∙ marked_are_blank c.args.rows c.args.mask.now body c.requires.form c.offset_to_zero.result leads
