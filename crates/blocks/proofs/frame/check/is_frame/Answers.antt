-- Proofs of the goals of `is_frame` (`frame::check`).
use Rattle.std.proofs.Common.{◌≡◌, ◌+◌, ◌-◌, ◌*◌, ◌/◌, length, take, drop, to_z, of_z, sym, ap, ◌∙◌, arith, rules}
use Rattle.std.specs.Int.{w64}
use Rattle.std.specs.Int.RustNames.{FitsSigned}
use Rattle.std.proofs.lemmas.Int.{to_z-of_z}
use Rattle.std.proofs.lemmas.List.{take_rest, length-drop}
use Rattle.blocks.proofs.Frames.{frame_is, are_offsets}
use Rattle.blocks.proofs.frame.check.is_frame.Goals as goal

pub returns : goal.returns
returns c =
    let body = c.args.body.now in
    let fits : FitsSigned w64 c.integer_at.result = search rules in
    let whole = ap length (take_rest body 9) ∙ length-drop 9 body in
    let exact : length (take (length body - 9) (drop 9 body)) ≡ (c.args.rows * c.from-width.result + 7) / 8 = omega arith in
    frame_is c.args.rows c.from-width.result body (take (length body - 9) (drop 9 body)) _ _ (omega arith) c.from-width.ensures (take_rest body 9) (to_z-of_z w64 c.integer_at.result fits ∙ c.integer_at.ensures) (omega arith) exact (sym c.are_unused_clear.ensures ∙ c.if-not-are_unused_clear.false)
    (c.are_offsets.ensures ∙ ap (λ k. are_offsets c.args.rows k (take (length body - 9) (drop 9 body)) (to_z w64 (of_z w64 c.integer_at.result))) (sym c.from-width.ensures))
