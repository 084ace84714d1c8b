-- Proofs of the goals of `read_integers` (`block_rows`).
use Rattle.std.proofs.Common.{length, take, drop, map, sym, ap, ◌∙◌}
use Rattle.meaning.specs.declared.value.ColType.TheVariants as of_type
use Rattle.meaning.specs.declared.value.Value.TheVariants.{Int}
use Rattle.blocks.specs.Block.{body_cells}
use Rattle.blocks.specs.Frame.{frame_integers}
use Rattle.blocks.proofs.ReadBodies.{part-map}
use Rattle.blocks.proofs.block_rows.read_integers.Goals as goal

pub returns-in-Frame : goal.returns-in-Frame
returns-in-Frame c =
    ap (map Int) c.read_frame.ensures
    ∙ part-map Int (length c.args.out.now) c.args.from (frame_integers c.args.rows c.args.body.now)
    ∙ ap (λ kind. take (length c.args.out.now) (drop c.args.from (body_cells kind of_type.Int c.args.rows c.args.body.now))) (sym c.in-Frame.is)
