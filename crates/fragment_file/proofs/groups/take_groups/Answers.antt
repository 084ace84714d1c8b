-- Proofs of the goals of `take_groups` (`groups`).
use Rattle.std.proofs.Common.{refl, sym, map, ◌∙◌}
use Rattle.std.proofs.lemmas.List.{length-map}
use Rattle.std.proofs.lemmas.Result.{err_from_is_err_and}
use Rattle.fragment_file.specs.Fragment.{group_sizes}
use Rattle.fragment_file.specs.FragmentReading.{groups_at}
use Rattle.fragment_file.specs.View.{block_in}
use Rattle.fragment_file.proofs.Loops.{groups_go_on, groups_fail, groups_finish}
use Rattle.fragment_file.proofs.Locations.{mapped_push, groups_push}
use Rattle.fragment_file.proofs.groups.take_groups.Goals as goal

pub returns-in_err-group-clause-read : goal.returns-in_err-group-clause-read
returns-in_err-group-clause-read c =
    let blocks = map (block_in c.args.bytes.now) in
    let all = groups_at 0 c.args.columns.now (group_sizes c.args.rows) c.args.rest.now in
    let count = c.len.ensures ∙ c.loop-left.groups.ok.0 ∙ sym (length-map c.loop-left.groups.items blocks) in
    let p = err_from_is_err_and c.from_residual.result c.from_residual.ensures.1 in
    rw (p.1, p.2) (λ not_memory. groups_fail (map blocks c.loop-left.groups.items) c.args.columns.now c.loop-left.left c.next_rows-size.result c.loop-left.rest.now c.in_err-group.field-0.0 all
    c.loop-left-test.true c.next_rows-size.ensures (rw count at c.in_err-group.ensures.read not_memory) c.loop-left.invariant.0)

pub loop-left-preserved : goal.loop-left-preserved
loop-left-preserved c =
    let blocks = map (block_in c.args.bytes.now) in
    let all = groups_at 0 c.args.columns.now (group_sizes c.args.rows) c.args.rest.now in
    let count = c.len.ensures ∙ c.loop-left.groups.ok.0 ∙ sym (length-map c.loop-left.groups.items blocks) in
    let goes_on = groups_go_on (map blocks c.loop-left.groups.items) c.args.columns.now c.loop-left.left c.next_rows-size.result c.loop-left.rest.now (blocks c.in_ok-group.group) c.in_ok-group.behind.now all
    c.loop-left-test.true c.next_rows-size.ensures (rw count at c.in_ok-group.ensures.read) c.loop-left.invariant.0 in
    rw c.in_ok-push.ensures.items (
      rw (mapped_push blocks c.loop-left.groups.items c.in_ok-group.group (blocks c.in_ok-group.group) refl) goes_on,
      groups_push c.args.bytes.now c.loop-left.groups.items c.in_ok-group.group c.loop-left.rest.now c.in_ok-group.behind.now c.loop-left.invariant.1 c.in_ok-group.ensures.taken,
    )

pub returns-clause-read : goal.returns-clause-read
returns-clause-read c =
    let blocks = map (block_in c.args.bytes.now) in
    let all = groups_at 0 c.args.columns.now (group_sizes c.args.rows) c.args.rest.now in
    rw c.from_vec.ensures (groups_finish (map blocks c.loop-left.groups.items) c.args.columns.now c.loop-left.left c.loop-left.rest.now all c.loop-left-test.false c.loop-left.invariant.0)
