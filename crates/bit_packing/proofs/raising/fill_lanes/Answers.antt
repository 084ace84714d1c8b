-- Proofs of the goals of `fill_lanes` (`raising`).
use Rattle.std.proofs.Common.{◌≡◌, ℕ, ◌+◌, length, ap, ◌∙◌, arith, ℤ, pos, ◌+ℤ◌, w64, to_z, of_z, true}
use Rattle.std.proofs.lemmas.Int.{to_z-of_z}
use Rattle.meaning.specs.Operators.{fits_i64}
use Rattle.bit_packing.specs.Offsets.{offset_at}
use Rattle.bit_packing.proofs.Ranges.{fits-at, step-range, stored}
use Rattle.bit_packing.proofs.raising.fill_lanes.Goals as goal

pub raised-requires : goal.raised-requires
raised-requires c =
    let f : ℕ → ℤ = λ j. c.args.base +ℤ pos (offset_at c.args.width c.args.packed.now j) in
    let h : fits_i64 (f (c.args.from + c.loop-i.i)) ≡ true = fits-at f c.args.from (length c.args.out.now) c.loop-i.i c.requires.fits (omega arith) in
    ap (λ z. fits_i64 (z +ℤ pos c.row_offset.result)) (to_z-of_z w64 c.args.base c.ranges.base)
    ∙ ap (λ (n : ℕ). fits_i64 (c.args.base +ℤ pos n)) c.row_offset.ensures
    ∙ h

pub loop-i-preserved : goal.loop-i-preserved
loop-i-preserved c =
    let base : ℤ = to_z w64 (of_z w64 c.args.base) in
    step-range (λ j. base +ℤ pos (offset_at c.args.width c.args.packed.now j)) c.loop-i.out c.args.from c.loop-i.i _ (omega arith) c.loop-i.invariant
    (stored c.raised.result c.raised.type_inv ∙ c.raised.ensures ∙ ap (λ (n : ℕ). base +ℤ pos n) c.row_offset.ensures)
