-- Proofs of the goals of `packed_marks` (`packing`).
use Rattle.std.proofs.Common.{◌≡◌, ◌-◌, ◌∙◌, ℕ, arith, ap, length, map, drop}
use Rattle.bit_packing.specs.Packing.{packed, bit_of}
use Rattle.bit_packing.proofs.PackedBits.{marks_below, marks_low, marks_more, no_marks}
use Rattle.bit_packing.proofs.packing.packed_marks.Goals as goal

pub loop-k-init : goal.loop-k-init
loop-k-init c = no_marks c.args.nulls.now

pub put_below-number-requires-clause-fits : goal.put_below-number-requires-clause-fits
put_below-number-requires-clause-fits c =
    let all = marks_below c.args.nulls.now _ _ c.requires (marks_more c.args.nulls.now c.loop-k.k c.loop-k.number c.from.result c.loop-k-test.true c.loop-k.invariant c.from.ensures) in
    omega arith

pub loop-k-preserved : goal.loop-k-preserved
loop-k-preserved c = c.put_below-number.ensures ∙ marks_more c.args.nulls.now c.loop-k.k c.loop-k.number c.from.result c.loop-k-test.true c.loop-k.invariant c.from.ensures

pub returns : goal.returns
returns c =
    let none : length c.args.nulls.now - c.loop-k.k ≡ 0 = omega arith in
    let all : c.loop-k.number ≡ packed 1 (map bit_of c.args.nulls.now) =
    c.loop-k.invariant ∙ ap (λ (i : ℕ). packed 1 (map bit_of (drop i c.args.nulls.now))) none in
    record { value = all; low = marks_low c.args.nulls.now c.loop-k.number all }
