-- Proofs of the goals of `are_marked_blank` (`cells`).
use Rattle.std.proofs.Common.{◌≡◌, ◌+◌, ◌-◌, ◌*◌, sym, ap, ◌∙◌, arith}
use Rattle.std.specs.Int.{w64, trailing_zeros}
use Rattle.blocks.specs.Block.{body_cells, is_blank}
use Rattle.blocks.specs.Block.{are_blank_from}
use Rattle.blocks.proofs.MaskWords.{next_mark, no_mark, shifted_more, clear_rows, set_row, full_row}
use Rattle.bit_packing.proofs.UnpackNumbers.{are_bytes}
use Rattle.blocks.proofs.cells.are_marked_blank.Goals as goal

pub returns-then-rows-row : goal.returns-then-rows-row
returns-then-rows-row c =
    let row = c.loop-marks.row in
    let rest = 8 * c.args.byte + 64 - row in
    let next = next_mark c.args.mask.now c.args.byte row c.loop-marks.marks (are_bytes c.args.mask.now c.type_inv.mask) c.loop-marks.invariant.low c.loop-marks.invariant.shifted (omega arith) (omega arith) in
    let same : row + rest ≡ 8 * c.args.byte + 64 = let high = c.loop-marks.invariant.high in omega arith in
    ap (λ k. are_blank_from k c.args.rows c.args.mask.now (body_cells c.args.kind c.args.col_type c.args.rows c.args.body.now)) (sym same)
    ∙ clear_rows c.args.kind c.args.col_type c.args.rows c.args.mask.now c.args.body.now c.requires.form rest row _ (λ i h within. next.2 i (omega arith)) c.loop-marks.invariant.behind

pub returns-then-not-is_blank : goal.returns-then-not-is_blank
returns-then-not-is_blank c =
    let row = c.loop-marks.row in
    let clear = trailing_zeros w64 c.loop-marks.marks in
    let next = next_mark c.args.mask.now c.args.byte row c.loop-marks.marks (are_bytes c.args.mask.now c.type_inv.mask) c.loop-marks.invariant.low c.loop-marks.invariant.shifted (omega arith) (omega arith) in
    full_row c.args.kind c.args.col_type c.args.rows c.args.mask.now c.args.body.now c.requires.form (row + clear) _ (omega arith) next.1 (sym (c.is_blank.ensures ∙ ap is_blank c.cell_at.ensures) ∙ c.if-not-is_blank.true)
    (clear_rows c.args.kind c.args.col_type c.args.rows c.args.mask.now c.args.body.now c.requires.form clear row _ (λ i h within. next.2 i h) c.loop-marks.invariant.behind)

pub loop-marks-smaller : goal.loop-marks-smaller
loop-marks-smaller c =
    let row = c.loop-marks.row in
    let next = next_mark c.args.mask.now c.args.byte row c.loop-marks.marks (are_bytes c.args.mask.now c.type_inv.mask) c.loop-marks.invariant.low c.loop-marks.invariant.shifted (omega arith) (omega arith) in
    let low = c.loop-marks.invariant.low in
    let within = next.0 in
    omega arith

pub loop-marks-preserved : goal.loop-marks-preserved
loop-marks-preserved c =
    let row = c.loop-marks.row in
    let clear = trailing_zeros w64 c.loop-marks.marks in
    let small = are_bytes c.args.mask.now c.type_inv.mask in
    let low = c.loop-marks.invariant.low in
    let next = next_mark c.args.mask.now c.args.byte row c.loop-marks.marks small low c.loop-marks.invariant.shifted (omega arith) (omega arith) in
    let within = next.0 in
    record {
      behind = set_row c.args.kind c.args.col_type c.args.rows c.args.mask.now c.args.body.now c.requires.form (row + clear) (row + clear + 1) _ (omega arith) (omega arith) next.1 (sym (c.is_blank.ensures ∙ ap is_blank c.cell_at.ensures) ∙ c.if-not-is_blank.false)
          (clear_rows c.args.kind c.args.col_type c.args.rows c.args.mask.now c.args.body.now c.requires.form clear row _ (λ i h inside. next.2 i h) c.loop-marks.invariant.behind);
      shifted = shifted_more c.args.mask.now c.args.byte row c.loop-marks.marks small low c.loop-marks.invariant.shifted clear (row + clear + 1) (omega arith);
      low = omega arith;
      high = omega arith;
    }

pub returns : goal.returns
returns c =
    let row = c.loop-marks.row in
    let rest = 8 * c.args.byte + 64 - row in
    let same : row + rest ≡ 8 * c.args.byte + 64 = let high = c.loop-marks.invariant.high in omega arith in
    let low = c.loop-marks.invariant.low in
    ap (λ k. are_blank_from k c.args.rows c.args.mask.now (body_cells c.args.kind c.args.col_type c.args.rows c.args.body.now)) (sym same)
    ∙ clear_rows c.args.kind c.args.col_type c.args.rows c.args.mask.now c.args.body.now c.requires.form rest row _
    (λ i h within. no_mark c.args.mask.now c.args.byte row c.loop-marks.marks (are_bytes c.args.mask.now c.type_inv.mask) low c.loop-marks.invariant.shifted (omega arith) i (omega arith)) c.loop-marks.invariant.behind
