-- Proofs of the goals of `packed_offsets` (`packing`).
use Rattle.std.proofs.Common.{◌≡◌, ◌-◌, ◌∙◌, ℕ, ℤ, pos, arith, ap, length, map, drop, ◌-ℤ◌, unsigned_abs}
use Rattle.bit_packing.specs.Packing.{packed}
use Rattle.bit_packing.proofs.PackedBits.{numbers_below, numbers_low, numbers_more, no_numbers}
use Rattle.bit_packing.proofs.packing.packed_offsets.Goals as goal

pub loop-k-init : goal.loop-k-init
loop-k-init c = no_numbers (λ (n : ℤ). unsigned_abs (n -ℤ c.args.base.now)) c.args.width c.args.ints.now

pub put_below-number-requires-clause-fits : goal.put_below-number-requires-clause-fits
put_below-number-requires-clause-fits c =
    let f : ℤ → ℕ = λ n. unsigned_abs (n -ℤ c.args.base.now) in
    let all = numbers_below f c.args.width c.args.ints.now _ _ c.requires.few c.requires.fit (numbers_more f c.args.width c.args.ints.now c.loop-k.k c.loop-k.number c.offset_of.result (pos 0) c.loop-k-test.true c.loop-k.invariant c.offset_of.ensures) in
    omega arith

pub loop-k-preserved : goal.loop-k-preserved
loop-k-preserved c = c.put_below-number.ensures ∙ numbers_more (λ (n : ℤ). unsigned_abs (n -ℤ c.args.base.now)) c.args.width c.args.ints.now c.loop-k.k c.loop-k.number c.offset_of.result (pos 0) c.loop-k-test.true c.loop-k.invariant c.offset_of.ensures

pub returns : goal.returns
returns c =
    let f : ℤ → ℕ = λ n. unsigned_abs (n -ℤ c.args.base.now) in
    let none : length c.args.ints.now - c.loop-k.k ≡ 0 = omega arith in
    let all : c.loop-k.number ≡ packed c.args.width (map f c.args.ints.now) =
    c.loop-k.invariant ∙ ap (λ (i : ℕ). packed c.args.width (map f (drop i c.args.ints.now))) none in
    record { value = all; low = numbers_low f c.args.width c.args.ints.now c.loop-k.number c.requires.fit all }
