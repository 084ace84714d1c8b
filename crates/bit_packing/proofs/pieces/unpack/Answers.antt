-- Proofs of the goals of `unpack` (`pieces`).
use Rattle.std.proofs.Common.{◌≡◌, ℕ, ◌+◌, ◌-◌, ◌*◌, ◌/◌, ◌%◌, ◌^◌, ◌<◌, ◌≤◌, List, length, take, drop, map, ap, ◌∙◌, arith}
use Rattle.std.specs.List.{range_with_len}
use Rattle.std.proofs.lemmas.List.{take_rest, length-drop}
use Rattle.bit_packing.specs.Offsets.{offset_at}
use Rattle.bit_packing.proofs.Ranges.{same-ranges}
use Rattle.bit_packing.proofs.UnpackNumbers.{are_bytes, group_start_within, group_rest_within, offset_at-group, parts_of_8}
use Rattle.bit_packing.proofs.pieces.unpack.Goals as goal

pub overflow_mul-start : goal.overflow_mul-start
overflow_mul-start c =
    let h : c.args.from / 8 * c.args.width ≤ length c.args.bytes.now = group_start_within c.args.from (length c.args.out.now) c.args.width (length c.args.bytes.now) c.requires.within in
    let l : length c.args.bytes.now < 2 ^ 64 = omega arith in
    omega arith

pub slice_bounds-fill_offsets-count : goal.slice_bounds-fill_offsets-count
slice_bounds-fill_offsets-count c = group_start_within c.args.from (length c.args.out.now) c.args.width (length c.args.bytes.now) c.requires.within

pub slice_bounds-fill_offsets-start : goal.slice_bounds-fill_offsets-start
slice_bounds-fill_offsets-start c = group_start_within c.args.from (length c.args.out.now) c.args.width (length c.args.bytes.now) c.requires.within

pub fill_offsets-requires-clause-within : goal.fill_offsets-requires-clause-within
fill_offsets-requires-clause-within c =
    let start : ℕ = c.args.from / 8 * c.args.width in
    let xs : List ℕ = c.args.bytes.now in
    let e : length (take (length xs - start) (drop start xs)) ≡ length xs - start = ap length (take_rest xs start) ∙ length-drop start xs in
    let h : (c.args.from % 8 + length c.args.out.now) * c.args.width ≤ 8 * (length xs - start) = group_rest_within c.args.from (length c.args.out.now) c.args.width (length xs) c.requires.within in
    omega (arith, e, h)

pub returns : goal.returns
returns c =
    let start : ℕ = c.args.from / 8 * c.args.width in
    let xs : List ℕ = c.args.bytes.now in
    let w : ℕ = c.args.width in
    let n : ℕ = length c.args.out.now in
    c.fill_offsets.ensures
    ∙ ap (λ ys. map (offset_at w ys) (range_with_len (c.args.from % 8) n)) (take_rest xs start)
    ∙ same-ranges (offset_at w (drop start xs)) (offset_at w xs) (c.args.from % 8) c.args.from n
    (λ j h. offset_at-group w (c.args.from / 8) (c.args.from % 8 + j) (c.args.from + j) xs (are_bytes xs c.type_inv.bytes) (omega (arith, parts_of_8 c.args.from)))
