-- Proofs of the goals of `mark_group` (`group_marks`).
use Rattle.std.proofs.Common.{◌∙◌, List, Option, ap, length, map, not, subst}
use Rattle.std.specs.List.{range_with_len}
use Rattle.block_predicates.specs.declared.marks.EntryMarks.{EntryMarks}
use Rattle.fragment_file.specs.Lent.{blocks_in}
use Rattle.meaning.specs.declared.expr.Expr.{Expr}
use Rattle.scan_select.specs.OnBlocks.{AreMarkedOn, IsMarkedIf}
use Rattle.scan_select.specs.Scanned.{GivesStanding}
use Rattle.worker.specs.Packed.{is_read}
use Rattle.worker.proofs.FileRows.{marks_behind, marks_made, marks_of_none}
use Rattle.worker.proofs.LaterConditions.{as_many}
use Rattle.worker.proofs.PackedColumns.{read_without}
use Rattle.worker.proofs.group_marks.mark_group.Goals as goal

pub returns-in_default : goal.returns-in_default
returns-in_default g c = marks_of_none c.args.plan.now c.args.scan.now c.args.marks.now (subst (GivesStanding c.args.scan.now) c.in_default.is c.standing.ensures)

pub packed_columns-requires : goal.packed_columns-requires
packed_columns-requires g c =
    ap length c.as_slice.ensures.value
    ∙ as_many (IsMarkedIf (blocks_in c.in-Some.standing.group)) c.as_slice-conjuncts.result.now c.in_ok-conditions.conditions.items c.in_ok-conditions.ensures.marked
    ∙ ap (λ (es : List Expr). length es) c.as_slice-conjuncts.ensures

pub returns-in_ok-packed : goal.returns-in_ok-packed
returns-in_ok-packed g c =
    let plan = c.args.plan.now in
    let stands = subst (GivesStanding c.args.scan.now) c.in-Some.is c.standing.ensures in
    let blocks = blocks_in c.in-Some.standing.group in
    let conditions = c.in_ok-conditions.conditions.items in
    let marked = subst (λ (es : List Expr). AreMarkedOn blocks es conditions) c.as_slice-conjuncts.ensures c.in_ok-conditions.ensures.marked in
    let packed = c.in_ok-packed.ensures ∙ ap (λ (ms : List (Option EntryMarks)). map (λ column. not (is_read column plan ms)) (range_with_len 0 c.args.columns)) c.as_slice.ensures.value in
    marks_made plan c.args.scan.now stands.0 _ c.in-Some.standing stands.1
    (record { conditions = marked; packed = read_without c.in_ok-packed.packed.items plan conditions c.args.columns (as_many (IsMarkedIf blocks) plan.conjuncts conditions marked) packed })

pub returns-else-standing-eq0 : goal.returns-else-standing-eq0
returns-else-standing-eq0 g c =
    let stands = subst (GivesStanding c.args.scan.now) c.in-Some.is c.standing.ensures in
    marks_behind c.args.plan.now c.args.scan.now stands.0 c.args.marks.now c.in-Some.standing stands.1 c.requires c.if-standing-eq0.false
