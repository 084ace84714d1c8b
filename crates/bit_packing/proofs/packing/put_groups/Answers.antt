-- Proofs of the goals of `put_groups` (`packing`).
use Rattle.std.proofs.Common.{arith, ◌≡◌, ◌≤◌, ◌+◌, ◌-◌, ◌*◌, ◌/◌, ◌^◌, nat_lt, ℕ, ℤ, length, refl, ◌-ℤ◌, unsigned_abs}
use Rattle.bit_packing.proofs.PackedBits.{packs_more, packed_all, all_within, groups_within, groups_end, groups_fit}
use Rattle.bit_packing.proofs.packing.put_groups.Goals as goal

pub loop-k-preserved : goal.loop-k-preserved
loop-k-preserved g c =
    let f : ℤ → ℕ = λ n. unsigned_abs (n -ℤ c.args.base.now) in
    let k : ℕ = c.loop-k.k in
    let within : g.row.N * k + g.row.N ≤ length c.args.ints.now = groups_within g.row.N k (length c.args.ints.now) c.loop-k-test.true in
    record {
      few = c.in_ok-bits.ensures.few;
      packs = packs_more f c.args.width _ _ _ _ c.args.ints.now _ (g.row.N * k) (g.row.N * k) g.row.N (g.row.N * k + g.row.N - g.row.N * k) (g.row.N * (k + 1)) _ within (omega arith) refl (omega arith) refl refl (c.in_ok-bits.ensures.packs _ _ _ c.loop-k.invariant.packs);
    }

pub put_some_offsets-requires-clause-fit : goal.put_some_offsets-requires-clause-fit
put_some_offsets-requires-clause-fit g c = all_within (λ (n : ℤ). nat_lt (unsigned_abs (n -ℤ c.args.base.now)) (2 ^ c.args.width)) _ _ c.args.ints.now c.requires.fit

pub put_some_offsets-requires-2-clause-fit : goal.put_some_offsets-requires-2-clause-fit
put_some_offsets-requires-2-clause-fit g c = all_within (λ (n : ℤ). nat_lt (unsigned_abs (n -ℤ c.args.base.now)) (2 ^ c.args.width)) _ _ c.args.ints.now c.requires.fit

pub finish-requires-clause-low : goal.finish-requires-clause-low
finish-requires-clause-low g c = (c.in_ok-bits-2.ensures.packs _ _ _ c.loop-k.invariant.packs).low

pub returns : goal.returns
returns g c =
    let f : ℤ → ℕ = λ n. unsigned_abs (n -ℤ c.args.base.now) in
    let xs = c.args.ints.now in
    let i : ℕ = g.row.N * c.loop-k.k in
    let last : c.loop-k.k ≡ length xs / g.row.N = omega arith in
    let at : length xs / g.row.N * g.row.N ≡ i = groups_end g.row.N _ _ last in
    let within : i ≤ length xs = groups_fit g.row.N _ (length xs) last in
    packed_all f c.args.width _ _ xs (length xs) _ (omega arith) (omega arith) refl (c.in_ok-finish.ensures _ _ _
    (packs_more f c.args.width _ _ _ _ xs _ i (length xs / g.row.N * g.row.N) (length xs - i) (length xs - length xs / g.row.N * g.row.N) (length xs) _ (omega arith) (omega arith) at (omega arith) refl refl (c.in_ok-bits-2.ensures.packs _ _ _ c.loop-k.invariant.packs)))
