-- Proofs of the goals of `are_nulls_blank` (`cells`).
use Rattle.std.proofs.Common.{◌||◌, Bool, false, not, zip, replicate, map, if◌then◌else◌, sym, ap, ◌∙◌}
use Rattle.std.specs.List.{list_all, range_with_len}
use Rattle.meaning.specs.declared.value.Value.{Value}
use Rattle.bit_packing.specs.Bits.{bit_at}
use Rattle.blocks.specs.Block.{body_cells, is_blank}
use Rattle.blocks.proofs.Nulls.{none_masked}
use Rattle.blocks.proofs.cells.are_nulls_blank.Goals as goal

pub returns-then-not-nullable : goal.returns-then-not-nullable
returns-then-not-nullable c =
    let cells = body_cells c.args.kind c.args.col_type c.args.rows c.args.body.now in
    let bits = map (bit_at c.args.mask.now) (range_with_len 0 c.args.rows) in
    sym (ap (λ (b : Bool). list_all (λ (p : Bool × Value). not p.0 || is_blank p.1) (zip (if b then bits else replicate c.args.rows false) cells)) c.if-not-nullable.true ∙ none_masked c.args.rows cells)
