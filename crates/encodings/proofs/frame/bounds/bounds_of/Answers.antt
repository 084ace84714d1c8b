-- Proofs of the goals of `bounds_of` (`frame::bounds`).
use Rattle.std.proofs.Common.{◌≡◌, ◌-◌, ◌+◌, arith, rules, length, drop, get_or, pos, sym, ap, ◌∙◌, w64, FitsSigned}
use Rattle.std.specs.Ordering.{int_cmp, ord_min, ord_max}
use Rattle.std.proofs.lemmas.Int.{to_z-of_z}
use Rattle.blocks.specs.Frame.{least_in, greatest_in}
use Rattle.encodings.proofs.EncodedFrames.{least_more, greatest_more, last_least, last_greatest}
use Rattle.encodings.proofs.frame.bounds.bounds_of.Goals as goal

pub loop-row-init : goal.loop-row-init
loop-row-init c =
    let xs = c.args.ints.now in
    let f : FitsSigned w64 (get_or xs (length xs - 1) (pos 0)) = search rules in
    let same = to_z-of_z w64 (get_or xs (length xs - 1) (pos 0)) f in
    record { within = omega arith; least = same ∙ last_least xs (omega arith); greatest = same ∙ last_greatest xs (omega arith) }

pub loop-row-preserved : goal.loop-row-preserved
loop-row-preserved c =
    let xs = c.args.ints.now in
    let row = c.loop-row.row in
    let f : FitsSigned w64 (get_or xs (row - 1) (pos 0)) = search rules in
    let same = to_z-of_z w64 (get_or xs (row - 1) (pos 0)) f in
    let within = c.loop-row.invariant.within in
    let e : (row - 1) + 1 ≡ row = omega arith in
    let lo : c.with-bounds.result.least ≡ ord_min int_cmp (get_or xs (row - 1) (pos 0)) c.loop-row.bounds.least = simp same at c.with-bounds.ensures.least in
    let hi : c.with-bounds.result.greatest ≡ ord_max int_cmp (get_or xs (row - 1) (pos 0)) c.loop-row.bounds.greatest = simp same at c.with-bounds.ensures.greatest in
    record {
      within = omega arith;
      least = lo ∙ (ap (λ m. ord_min int_cmp (get_or xs (row - 1) (pos 0)) m) (c.loop-row.invariant.least ∙ ap (λ k. least_in (drop k xs)) (sym e)) ∙ sym (least_more xs (row - 1) (omega arith)));
      greatest = hi ∙ (ap (λ m. ord_max int_cmp (get_or xs (row - 1) (pos 0)) m) (c.loop-row.invariant.greatest ∙ ap (λ k. greatest_in (drop k xs)) (sym e)) ∙ sym (greatest_more xs (row - 1) (omega arith)));
    }

pub returns-clause-least : goal.returns-clause-least
returns-clause-least c = let z : c.loop-row.row ≡ 0 = omega arith in c.loop-row.invariant.least ∙ ap (λ k. least_in (drop k c.args.ints.now)) z

pub returns-clause-greatest : goal.returns-clause-greatest
returns-clause-greatest c = let z : c.loop-row.row ≡ 0 = omega arith in c.loop-row.invariant.greatest ∙ ap (λ k. greatest_in (drop k c.args.ints.now)) z
