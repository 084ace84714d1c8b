-- Proofs of the goals of `fill_now` (`scan`).
use Rattle.std.proofs.Common.{List, ap, sym, subst, ◌∙◌}
use Rattle.std.specs.Prelude.{All, Option, option_map}
use Rattle.blocks.specs.Block.{Block}
use Rattle.fragment_file.specs.Lent.{blocks_in}
use Rattle.fragment_file.specs.View.{rows_of}
use Rattle.scan_select.specs.declared.buffers.ColumnBuffer.{ColumnBuffer}
use Rattle.scan_select.specs.Buffers.{FitsGroup, filled_now, filled_unless}
use Rattle.scan_select.proofs.Filling.{all_fit_group, put_back}
use Rattle.scan_select.proofs.scan.fill_now.Goals as goal

pub fill_all-requires : goal.fill_all-requires
fill_all-requires g c =
    subst (λ (bs : List ColumnBuffer). All (FitsGroup (blocks_in c.in-Some.group)) bs) (sym c.as_mut_slice.ensures.value)
    (all_fit_group (g.G.RowGroups.header_of c.args.groups.now).columns (rows_of (blocks_in c.in-Some.group)) c.requires.0 (blocks_in c.in-Some.group) c.args.buffers.now.items c.in-Some.ensures.blocks c.requires.1)

pub returns-in-Some : goal.returns-in-Some
returns-in-Some g c =
    let stands = sym c.group.ensures.value ∙ ap (option_map blocks_in) c.in-Some.is in
    let buffers = c.args.buffers.now in
    put_back (filled_unless c.args.packed.now (blocks_in c.in-Some.group) c.args.first) buffers.items c.as_mut_slice.result.now c.fill_all.new.buffers buffers.len c.as_mut_slice.ensures.value c.as_mut_slice.ensures.len c.fill_all.ensures
    ∙ sym (ap (λ (current : Option (List Block)). filled_now c.args.packed.now current c.args.first buffers.items) stands)
