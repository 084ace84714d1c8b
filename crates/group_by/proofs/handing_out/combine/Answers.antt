-- Proofs of the goals of `combine` (`handing_out`).
use Rattle.std.proofs.Common.{List, length, subst, sym}
use Rattle.meaning.specs.declared.answer.Group.{Group}
use Rattle.group_by.specs.Combined.{MergesWithFirst}
use Rattle.group_by.proofs.Combining.{merges_next, popped}
use Rattle.group_by.proofs.handing_out.combine.Goals as goal

pub put-requires : goal.put-requires
put-requires c =
    let all = c.args.groups.items in
    let now = c.loop-group.groups.items in
    let new = c.pop.new.self.items in
    let next = (popped all now new c.in-Some.group c.loop-group.invariant.groups c.in-Some.ensures.items).1 in
    subst (λ (gs : List Group). MergesWithFirst c.in-Some.group gs) (sym c.loop-group.invariant.out)
    (merges_next c.args.width all c.in-Some.group (length new) (length now) c.requires next)
