-- Proofs of the goals of `advance` (`scan`).
use Rattle.std.proofs.Common.{◌≡◌, ℕ, ◌+◌, ◌-◌, ◌<◌, [], Ok, Err, length, refl, ap, sym, subst, ◌∙◌, arith}
use Rattle.std.specs.Prelude.{All}
use Rattle.fragment_file.specs.declared.header.Header.{Header}
use Rattle.meaning.proofs.VectorLengths.{vector_length_within}
use Rattle.scan_select.specs.Buffers.{IsBufferOf, columns_of}
use Rattle.scan_select.specs.Groups.{GroupsGoOn, current_rows}
use Rattle.scan_select.specs.Pieces.{piece_now, pieces_behind}
use Rattle.scan_select.specs.Scanned.{CountsRows, ScanSpec}
use Rattle.scan_select.proofs.Advancing.{begins_group, counts_next, counts_same, next_group, no_group, same_group, some_stand, stays_in, still_stand}
use Rattle.scan_select.proofs.Filling.{emptied_columns, stands_empty}
use Rattle.scan_select.proofs.scan.Scan.advance.Goals as goal

pub invariant_of-self : goal.invariant_of-self
invariant_of-self g c =
    let below = c.if-behind-group_rows.true in
    stands_empty _ c.self.inside.most _ c.self.inside.group_rows (c.self.inside.first + c.self.inside.rows) c.min-self-inside.result c.self.inside.buffers.items _ c.self.invariant.columns_within c.self.invariant.vectors c.self.invariant.group_rows_are
    (omega (arith, below)) c.min-self-inside.ensures c.self.invariant.of_columns c.empty_buffers.ensures

pub returns-then-behind-group_rows-clause-columns : goal.returns-then-behind-group_rows-clause-columns
returns-then-behind-group_rows-clause-columns g c =
    ap columns_of c.empty_buffers.ensures ∙ emptied_columns c.self.inside.buffers.items ∙ ap (λ (s : ScanSpec _). s.columns) c.self.view_is

pub returns-then-behind-group_rows-clause-told : goal.returns-then-behind-group_rows-clause-told
returns-then-behind-group_rows-clause-told g c =
    let inside = c.self.inside in
    same_group g.G.RowGroups.is_coming inside.most (vector_length_within inside.most c.self.invariant.vectors).0 (g.G.RowGroups.current inside.groups) inside.group_rows (inside.first + inside.rows) c.min-self-inside.result
    c.args.self.now
    (record { source = inside.groups; header = g.G.RowGroups.header_of inside.groups; columns = []; most = inside.most; at = piece_now (g.G.RowGroups.current inside.groups) (inside.first + inside.rows) c.min-self-inside.result; behind = pieces_behind inside.most (g.G.RowGroups.current inside.groups) (inside.first + inside.rows + c.min-self-inside.result); rows_left = 0 })
    c.self.invariant.group_rows_are c.if-behind-group_rows.true c.min-self-inside.ensures
    (ap (λ (s : ScanSpec _). s.most) (sym c.self.view_is)) (ap (λ (s : ScanSpec _). s.behind) (sym c.self.view_is)) (ap (λ (s : ScanSpec _). s.source) c.self.view_is) refl refl refl

pub returns-then-behind-group_rows-clause-stands : goal.returns-then-behind-group_rows-clause-stands
returns-then-behind-group_rows-clause-stands g c =
    still_stand c.self.inside.most _ c.self.inside.group_rows (c.self.inside.first + c.self.inside.rows) c.min-self-inside.result (vector_length_within c.self.inside.most c.self.invariant.vectors).0 c.self.invariant.group_rows_are c.if-behind-group_rows.true c.min-self-inside.ensures

pub returns-then-behind-group_rows-clause-counted : goal.returns-then-behind-group_rows-clause-counted
returns-then-behind-group_rows-clause-counted g c =
    rw (← c.self.view_is) (counts_same c.self.inside.most (g.G.RowGroups.current c.self.inside.groups) c.self.inside.group_rows (c.self.inside.first + c.self.inside.rows) c.min-self-inside.result (g.G.RowGroups.rows_left c.self.inside.groups)
    (vector_length_within c.self.inside.most c.self.invariant.vectors).0 c.self.invariant.group_rows_are c.if-behind-group_rows.true c.min-self-inside.ensures)

pub returns-then-behind-group_rows-clause-stays : goal.returns-then-behind-group_rows-clause-stays
returns-then-behind-group_rows-clause-stays g c =
    rw (← c.self.view_is) (stays_in c.self.inside.most (g.G.RowGroups.current c.self.inside.groups) c.self.inside.group_rows c.self.inside.first c.self.inside.rows c.min-self-inside.result
    (vector_length_within c.self.inside.most c.self.invariant.vectors).0 c.self.invariant.group_rows_are c.if-behind-group_rows.true c.self.invariant.full)

pub invariant_of-self-in-Ok : goal.invariant_of-self-in-Ok
invariant_of-self-in-Ok g c =
    let of_columns = subst (λ (h : Header). All (IsBufferOf h.columns c.self.inside.most) c.self.inside.buffers.items) (sym c.advance.ensures.same) c.self.invariant.of_columns in
    let below = subst (λ (h : Header). All (λ p. p < length h.columns) (columns_of c.self.inside.buffers.items)) (sym c.advance.ensures.same) c.self.invariant.columns_within in
    let size = c.min-self-inside-in-Ok.ensures in
    stands_empty _ c.self.inside.most _ c.rows_now-self-inside.result 0 c.min-self-inside-in-Ok.result c.self.inside.buffers.items _ below c.self.invariant.vectors c.rows_now-self-inside.ensures.value
    (omega arith) (omega (arith, size)) of_columns c.empty_buffers.ensures

pub returns-in-Ok-clause-columns : goal.returns-in-Ok-clause-columns
returns-in-Ok-clause-columns g c =
    ap columns_of c.empty_buffers.ensures ∙ emptied_columns c.self.inside.buffers.items ∙ ap (λ (s : ScanSpec _). s.columns) c.self.view_is

pub returns-in-Ok-clause-told : goal.returns-in-Ok-clause-told
returns-in-Ok-clause-told g c =
    let inside = c.self.inside in
    let end = c.if-behind-group_rows.false in
    let same = c.self.invariant.group_rows_are in
    let source = ap (λ (s : ScanSpec _). s.source) c.self.view_is in
    next_group g.G.RowGroups.is_coming inside.most (vector_length_within inside.most c.self.invariant.vectors).0 (g.G.RowGroups.current inside.groups) (g.G.RowGroups.current c.advance.new.self) (inside.first + inside.rows) c.rows_now-self-inside.result c.min-self-inside-in-Ok.result
    c.args.self.now
    (record { source = c.advance.new.self; header = g.G.RowGroups.header_of inside.groups; columns = []; most = inside.most; at = piece_now (g.G.RowGroups.current c.advance.new.self) 0 c.min-self-inside-in-Ok.result; behind = pieces_behind inside.most (g.G.RowGroups.current c.advance.new.self) (0 + c.min-self-inside-in-Ok.result); rows_left = 0 })
    c.in-Ok.more (omega (arith, end, same))
    (ap (λ (s : ScanSpec _). s.most) (sym c.self.view_is)) (ap (λ (s : ScanSpec _). s.behind) (sym c.self.view_is))
    (subst (λ (from : _). GroupsGoOn (g.G.RowGroups.is_coming from) (g.G.RowGroups.is_coming c.advance.new.self) (g.G.RowGroups.current c.advance.new.self) (Ok c.in-Ok.more)) source c.in-Ok.ensures.told)
    c.rows_now-self-inside.ensures.value c.rows_now-self-inside.ensures.some c.min-self-inside-in-Ok.ensures refl refl (ap (λ (k : ℕ). pieces_behind inside.most (g.G.RowGroups.current c.advance.new.self) k) (omega arith))

pub returns-in-Ok-clause-stands : goal.returns-in-Ok-clause-stands
returns-in-Ok-clause-stands g c =
    some_stand c.self.inside.most c.rows_now-self-inside.result c.min-self-inside-in-Ok.result c.in-Ok.more _ (vector_length_within c.self.inside.most c.self.invariant.vectors).0 c.in-Ok.ensures.stands c.rows_now-self-inside.ensures.some c.min-self-inside-in-Ok.ensures

pub invariant_of-self-in-Err : goal.invariant_of-self-in-Err
invariant_of-self-in-Err g c =
    let of_columns = subst (λ (h : Header). All (IsBufferOf h.columns c.self.inside.most) c.self.inside.buffers.items) (sym c.advance.ensures.same) c.self.invariant.of_columns in
    let below = subst (λ (h : Header). All (λ p. p < length h.columns) (columns_of c.self.inside.buffers.items)) (sym c.advance.ensures.same) c.self.invariant.columns_within in
    stands_empty _ c.self.inside.most (g.G.RowGroups.current c.advance.new.self) 0 0 0 c.self.inside.buffers.items _ below c.self.invariant.vectors (sym (ap current_rows c.in-Err.ensures.none))
    (omega arith) (omega arith) of_columns c.empty_buffers.ensures

pub returns-in-Err-clause-columns : goal.returns-in-Err-clause-columns
returns-in-Err-clause-columns g c =
    ap columns_of c.empty_buffers.ensures ∙ emptied_columns c.self.inside.buffers.items ∙ ap (λ (s : ScanSpec _). s.columns) c.self.view_is

pub returns-in-Err-clause-told : goal.returns-in-Err-clause-told
returns-in-Err-clause-told g c =
    let inside = c.self.inside in
    let end = c.if-behind-group_rows.false in
    let same = c.self.invariant.group_rows_are in
    let source = ap (λ (s : ScanSpec _). s.source) c.self.view_is in
    no_group g.G.RowGroups.is_coming inside.most (vector_length_within inside.most c.self.invariant.vectors).0 (g.G.RowGroups.current inside.groups) (g.G.RowGroups.current c.advance.new.self) (inside.first + inside.rows) (g.G.RowGroups.is_coming c.advance.new.self)
    c.args.self.now c.args.self.now c.in-Err.fault (omega (arith, end, same))
    (ap (λ (s : ScanSpec _). s.most) (sym c.self.view_is)) (ap (λ (s : ScanSpec _). s.behind) (sym c.self.view_is))
    (subst (λ (from : _). GroupsGoOn (g.G.RowGroups.is_coming from) (g.G.RowGroups.is_coming c.advance.new.self) (g.G.RowGroups.current c.advance.new.self) (Err c.in-Err.fault)) source c.in-Err.ensures.told)

pub returns-in-Ok-clause-counted : goal.returns-in-Ok-clause-counted
returns-in-Ok-clause-counted g c =
    let end = c.if-behind-group_rows.false in
    let none : c.min-self-inside-in-Ok.result ≡ 0 + c.min-self-inside-in-Ok.result = omega arith in
    rw (← c.self.view_is) (subst (λ (k : ℕ). CountsRows c.in-Ok.more ((c.self.inside.group_rows - (c.self.inside.first + c.self.inside.rows)) + g.G.RowGroups.rows_left c.self.inside.groups)
    ((c.rows_now-self-inside.result - k) + g.G.RowGroups.rows_left c.advance.new.self) (piece_now (g.G.RowGroups.current c.advance.new.self) 0 c.min-self-inside-in-Ok.result)) none
    (counts_next c.self.inside.most (g.G.RowGroups.current c.advance.new.self) c.self.inside.group_rows (c.self.inside.first + c.self.inside.rows) c.rows_now-self-inside.result c.min-self-inside-in-Ok.result
    (g.G.RowGroups.rows_left c.self.inside.groups) (g.G.RowGroups.rows_left c.advance.new.self) c.in-Ok.more (vector_length_within c.self.inside.most c.self.invariant.vectors).0 (omega (arith, end)) c.in-Ok.ensures.stands c.in-Ok.ensures.counted
    c.rows_now-self-inside.ensures.value c.rows_now-self-inside.ensures.some c.min-self-inside-in-Ok.ensures))

pub returns-in-Ok-clause-stays : goal.returns-in-Ok-clause-stays
returns-in-Ok-clause-stays g c = begins_group _ (g.G.RowGroups.current c.advance.new.self) c.min-self-inside-in-Ok.result
