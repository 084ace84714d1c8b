-- Proofs of the goals of `mark_conditions` (`marked`).
use Rattle.std.proofs.Common.{◌≡◌, ◌∙◌, ◌+◌, ◌∷◌, ◌++◌, [], List, Option, take, ap, sym, subst}
use Rattle.std.specs.List.{AllZip}
use Rattle.std.proofs.lemmas.List.{take_more}
use Rattle.meaning.specs.declared.expr.Expr.{Expr}
use Rattle.fragment_file.specs.Lent.{blocks_in}
use Rattle.block_predicates.specs.declared.marks.EntryMarks.{EntryMarks}
use Rattle.scan_select.specs.OnBlocks.{IsMarkedIf, IsMarkedWhere}
use Rattle.scan_select.proofs.MarkedBlocks.{zip_push}
use Rattle.scan_select.proofs.marked.mark_conditions.Goals as goal

pushed : (R : Expr → Option EntryMarks → Type 0) (es cs : List Expr) (ms : List (Option EntryMarks)) (c : Expr) (m : Option EntryMarks) (new : List (Option EntryMarks)) → es ≡ cs ++ c ∷ [] → new ≡ ms ++ m ∷ []
    → AllZip R cs ms → R c m → AllZip R es new
pushed R es cs ms c m new more is are one = subst (AllZip R es) (sym is) (subst (λ (xs : List Expr). AllZip R xs (ms ++ m ∷ [])) (sym more) (zip_push R cs ms c m are one))

pub loop-condition-preserved : goal.loop-condition-preserved
loop-condition-preserved c =
    let cs = c.args.conditions.now in
    let k = c.loop-condition.condition-index in
    let e = c.condition-item.result in
    let blocks = blocks_in c.args.group.now in
    let more : take (k + 1) cs ≡ take k cs ++ e ∷ [] = take_more cs k e c.loop-condition-test.true ∙ ap (λ (x : Expr). take k cs ++ x ∷ []) (sym c.condition-item.is) in
    let found = c.in_ok-marks_of.field-0 in (
      pushed (IsMarkedIf blocks) (take (k + 1) cs) (take k cs) c.loop-condition.marks.items e found c.push.new.self.items more c.in_ok-push.ensures.items c.loop-condition.invariant.0 c.in_ok-marks_of.ensures.marked,
      pushed (IsMarkedWhere blocks c.args.most) (take (k + 1) cs) (take k cs) c.loop-condition.marks.items e found c.push.new.self.items more c.in_ok-push.ensures.items c.loop-condition.invariant.1 c.in_ok-marks_of.ensures.each,
    )
