-- Proofs of the goals of `unpack` (`scan`).
use Rattle.std.proofs.Common.{ℕ, ◌+◌, ◌-◌, List, ap, ◌∙◌}
use Rattle.scan_select.specs.Buffers.{columns_of}
use Rattle.scan_select.specs.Pieces.{piece_now, pieces_behind}
use Rattle.scan_select.proofs.Filling.{now_columns, stands_filled}
use Rattle.scan_select.proofs.scan.Scan.unpack.Goals as goal

pub fill_now-requires : goal.fill_now-requires
fill_now-requires g c = (c.self.inside.most, c.self.invariant.of_columns)

pub invariant_of-self : goal.invariant_of-self
invariant_of-self g c =
    stands_filled _ c.self.inside.most c.args.packed.now _ c.self.inside.group_rows c.self.inside.first c.self.inside.rows c.self.inside.buffers.items _ c.self.invariant c.fill_now.ensures

pub returns : goal.returns
returns g c =
    let s = c.self.inside in
    rw (← c.self.view_is) (ap (λ (columns : List ℕ). record {
      source = s.groups;
      header = g.G.RowGroups.header_of s.groups;
      columns = columns;
      most = s.most;
      at = piece_now (g.G.RowGroups.current s.groups) s.first s.rows;
      behind = pieces_behind s.most (g.G.RowGroups.current s.groups) (s.first + s.rows);
      rows_left = (s.group_rows - (s.first + s.rows)) + g.G.RowGroups.rows_left s.groups;
    }) (ap columns_of c.fill_now.ensures ∙ now_columns c.args.packed.now _ s.first s.buffers.items))
