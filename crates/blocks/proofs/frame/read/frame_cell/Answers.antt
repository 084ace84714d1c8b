-- Proofs of the goals of `frame_cell` (`frame::read`).
use Rattle.std.proofs.Common.{◌≡◌, ℤ, pos, ◌+ℤ◌, sym, ap, ◌∙◌, subst, rules}
use Rattle.std.specs.Int.{w64, w128}
use Rattle.std.specs.Int.RustNames.{FitsSigned}
use mir.Val.{to_z, of_z}
use Rattle.std.proofs.lemmas.Int.{to_z-of_z}
use Rattle.std.proofs.lemmas.List.{take_rest}
use Rattle.meaning.proofs.Words.{fits_word}
use Rattle.bit_packing.specs.Offsets.{offset_at}
use Rattle.blocks.specs.Frame.{base_of, width_of, packed_of}
use Rattle.blocks.proofs.Frames.{frame_value, frame_fits, wide_sum}
use Rattle.blocks.proofs.frame.read.frame_cell.Goals as goal

pub overflow_cast-result : goal.overflow_cast-result
overflow_cast-result c =
    let body = c.args.body.now in
    let fits : FitsSigned w64 c.integer_at.result = search rules in
    let wide : FitsSigned w128 c.from.result = search rules in
    let wider : FitsSigned w128 c.from-2.result = search rules in
    let base : c.from.result ≡ base_of body = c.from.ensures ∙ to_z-of_z w64 c.integer_at.result fits ∙ c.integer_at.ensures in
    let offset : c.row_offset-offset.result ≡ offset_at (width_of body) (packed_of body) c.args.row = c.row_offset-offset.ensures ∙ ap (λ k. offset_at (width_of body) k c.args.row) (take_rest body 9) in
    let sum : c.from.result +ℤ c.from-2.result ≡ base_of body +ℤ pos (offset_at (width_of body) (packed_of body) c.args.row) = ap (λ k. k +ℤ c.from-2.result) base ∙ ap (λ k. base_of body +ℤ k) (c.from-2.ensures ∙ ap pos offset) in
    let known = frame_fits c.args.rows c.args.row body c.requires.form c.requires.within in
    let total = wide_sum c.from.result c.from-2.result (base_of body +ℤ pos (offset_at (width_of body) (packed_of body) c.args.row)) wide wider sum known in
    subst (λ (z : ℤ). FitsSigned w64 z) (sym total) (fits_word (base_of body +ℤ pos (offset_at (width_of body) (packed_of body) c.args.row)) known)

pub returns : goal.returns
returns c =
    let body = c.args.body.now in
    let fits : FitsSigned w64 c.integer_at.result = search rules in
    let wide : FitsSigned w128 c.from.result = search rules in
    let wider : FitsSigned w128 c.from-2.result = search rules in
    let base : c.from.result ≡ base_of body = c.from.ensures ∙ to_z-of_z w64 c.integer_at.result fits ∙ c.integer_at.ensures in
    let offset : c.row_offset-offset.result ≡ offset_at (width_of body) (packed_of body) c.args.row = c.row_offset-offset.ensures ∙ ap (λ k. offset_at (width_of body) k c.args.row) (take_rest body 9) in
    let sum : c.from.result +ℤ c.from-2.result ≡ base_of body +ℤ pos (offset_at (width_of body) (packed_of body) c.args.row) = ap (λ k. k +ℤ c.from-2.result) base ∙ ap (λ k. base_of body +ℤ k) (c.from-2.ensures ∙ ap pos offset) in
    let known = frame_fits c.args.rows c.args.row body c.requires.form c.requires.within in
    let total = wide_sum c.from.result c.from-2.result (base_of body +ℤ pos (offset_at (width_of body) (packed_of body) c.args.row)) wide wider sum known in
    ap (λ z. to_z w64 (of_z w64 z)) total ∙ to_z-of_z w64 (base_of body +ℤ pos (offset_at (width_of body) (packed_of body) c.args.row)) (fits_word (base_of body +ℤ pos (offset_at (width_of body) (packed_of body) c.args.row)) known) ∙ sym (frame_value c.args.rows c.args.row body c.requires.within)
