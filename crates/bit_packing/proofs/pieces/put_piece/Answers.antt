-- Proofs of the goals of `put_piece` (`pieces`).
use Rattle.std.proofs.Common.{◌≡◌, ℕ, ◌+◌, ◌-◌, ◌*◌, ◌/◌, ◌%◌, ◌<◌, ◌≤◌, List, length, take, drop, map, set, subst, sym, ap, ◌∙◌, arith}
use Rattle.std.specs.List.{range_with_len}
use Rattle.std.proofs.lemmas.List.{take_rest, length-drop}
use Rattle.bit_packing.specs.Offsets.{lifted, offset_at}
use Rattle.bit_packing.proofs.Lowered.{lane_lifted, lowered_is}
use Rattle.bit_packing.proofs.Ranges.{step-range}
use Rattle.bit_packing.proofs.UnpackNumbers.{are_bytes, group_start_within, group_rest_within}
use Rattle.bit_packing.proofs.pieces.put_piece.Goals as goal

pub slice_bounds-fill_lifted-count : goal.slice_bounds-fill_lifted-count
slice_bounds-fill_lifted-count c = group_start_within (c.args.from + c.args.at) c.args.count c.args.width (length c.args.bytes.now) c.requires.within

pub slice_bounds-fill_lifted-start : goal.slice_bounds-fill_lifted-start
slice_bounds-fill_lifted-start c = group_start_within (c.args.from + c.args.at) c.args.count c.args.width (length c.args.bytes.now) c.requires.within

pub fill_lifted-requires-clause-within : goal.fill_lifted-requires-clause-within
fill_lifted-requires-clause-within c =
    let i : ℕ = c.args.from + c.args.at in
    let start : ℕ = i / 8 * c.args.width in
    let xs : List ℕ = c.args.bytes.now in
    let e : length (take (length xs - start) (drop start xs)) ≡ length xs - start = ap length (take_rest xs start) ∙ length-drop start xs in
    let h : (i % 8 + c.args.count) * c.args.width ≤ 8 * (length xs - start) = group_rest_within i c.args.count c.args.width (length xs) c.requires.within in
    let w : ℕ = c.args.width in
    let n : (i % 8 + length c.args.lanes.now) * w ≡ (i % 8 + c.args.count) * w = ap (λ (k : ℕ). (i % 8 + k) * w) c.requires.lanes in
    omega (arith, e, h, n)

pub loop-i-preserved : goal.loop-i-preserved
loop-i-preserved c =
    let i : ℕ = c.args.from + c.args.at in
    let j : ℕ = c.loop-i.i in
    let w : ℕ = c.args.width in
    let xs : List ℕ = c.args.bytes.now in
    let start : ℕ = i / 8 * w in
    let n : ℕ = length c.args.lanes.now in
    let below : j < n = omega (arith, c.requires.lanes, c.loop-i-test.true) in
    let lanes = c.fill_lifted.ensures ∙ ap (λ ys. map (λ k. lifted (offset_at w ys k)) (range_with_len (i % 8) n)) (take_rest xs start) in
    let lane = lane_lifted w i n j xs c.fill_lifted.new.out (are_bytes xs c.type_inv.bytes) below lanes in
    let index : i + j ≡ c.args.from + (c.args.at + j) = omega arith in
    let next : (c.args.at + j) + 1 ≡ c.args.at + (j + 1) = omega arith in
    subst (λ (m : ℕ). take m (set c.loop-i.out (c.args.at + j) c.lowered.result) ≡ map (offset_at w xs) (range_with_len c.args.from m)) next
    (step-range (offset_at w xs) c.loop-i.out c.args.from (c.args.at + j) c.lowered.result (omega (arith, c.loop-i.auto.out, c.requires.room, c.loop-i-test.true)) c.loop-i.invariant
    (lowered_is c.lowered.result (offset_at w xs (i + j)) (sym c.lowered.ensures ∙ lane) ∙ ap (offset_at w xs) index))
