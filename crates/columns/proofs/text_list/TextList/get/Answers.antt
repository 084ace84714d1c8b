-- Proofs of the goals of `TextList::get` (`text_list`).
use Rattle.std.proofs.Common.{◌≡◌, ◌+◌, ◌≤◌, arith, rules, ap, ◌∙◌, length, take}
use Rattle.std.specs.List.{concat}
use Rattle.columns.proofs.Joined.{front_le, front_within, cut_one, length-texts_from, end_seen, one_is_text}
use Rattle.columns.proofs.text_list.TextList.get.Goals as goal

pub index-requires : goal.index-requires
index-requires c = omega (arith, length-texts_from 0 c.self.inside.ends.items c.self.inside.joined.items, ap length c.self.view_is, c.self.inside.ends.ok.0)

end_is : (c : goal.After-row_known-1) → c.index.result.now ≡ length (concat (take (c.args.index + 1) c.args.self.now))
end_is c = end_seen _ _ _ c.args.index _ c.self.invariant c.self.view_is c.requires c.index.ensures

in_order : (c : goal.After-row_known-1) → c.start.result ≤ c.index.result.now
in_order c = rw (c.start.ensures, end_is c) (front_le c.args.self.now c.args.index (c.args.index + 1) (omega arith))

within : (c : goal.After-row_known-1) → c.index.result.now ≤ length c.deref.result.now
within c =
    let n = ap length (c.deref.ensures.value ∙ c.self.invariant.joined_is) in
    let s = ap (λ ts. length (concat ts)) c.self.view_is in
    omega (arith, end_is c, front_within c.args.self.now (c.args.index + 1))

pub slice_bounds-result-count : goal.slice_bounds-result-count
slice_bounds-result-count c = in_order c

pub slice_bounds-result-start : goal.slice_bounds-result-start
slice_bounds-result-start c =
    let t = in_order c in
    let u = within c in
    let v : c.start.result ≤ length c.deref.result.now = omega arith in
    search rules

pub slice_bounds-result-end : goal.slice_bounds-result-end
slice_bounds-result-end c =
    let t = in_order c in
    let u = within c in
    search rules

pub returns-clause-value : goal.returns-clause-value
returns-clause-value c =
    let e = end_seen _ _ _ c.args.index _ c.self.invariant c.self.view_is c.requires c.index.ensures in
    rw (c.deref.ensures.value, c.self.invariant.joined_is, c.self.view_is) (cut_one c.args.self.now c.args.index _ _ c.requires c.start.ensures e)

pub returns-clause-text : goal.returns-clause-text
returns-clause-text c =
    let e = end_seen _ _ _ c.args.index _ c.self.invariant c.self.view_is c.requires c.index.ensures in
    rw (c.deref.ensures.value, c.self.invariant.joined_is, c.self.view_is, cut_one c.args.self.now c.args.index _ _ c.requires c.start.ensures e, ← c.self.view_is)
    (one_is_text _ c.args.index (rw c.self.view_is c.requires) c.self.invariant.texts_are)
