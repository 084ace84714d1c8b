-- Proofs of the goals of `last_first` (`handing_out`).
use Rattle.std.proofs.Common.{◌≡◌, rules, length, reverse, ap, sym, ◌∙◌}
use Rattle.group_by.proofs.Combining.{none_popped, popped}
use Rattle.group_by.proofs.Handing.{no_group_left, group_more}
use Rattle.group_by.proofs.handing_out.last_first.Goals as goal

pub loop-key-init : goal.loop-key-init
loop-key-init c = record {
  keys = none_popped c.args.keys.items;
  groups = c.in_ok-groups.ensures.items ∙ sym (ap reverse (no_group_left c.args.keys.items c.args.rows.now c.args.columns.now));
}

pub loop-key-preserved : goal.loop-key-preserved
loop-key-preserved c =
    let all = c.args.keys.items in
    let now = c.loop-key.keys.items in
    let new = c.pop.new.self.items in
    let at : c.len-in-Some.result ≡ length new = search rules in
    record {
      keys = (popped all now new c.in-Some.key c.loop-key.invariant.keys c.in-Some.ensures.items).0;
      groups = group_more all now new c.in-Some.key c.args.rows.now c.args.columns.now c.loop-key.groups.items c.push.new.self.items c.in_ok-group_of.field-0 c.len-in-Some.result
          c.loop-key.invariant.keys c.in-Some.ensures.items at c.in_ok-group_of.ensures c.loop-key.invariant.groups c.in_ok-push.ensures.items;
    }
