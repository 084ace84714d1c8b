-- Proofs of the goals of `TextList::joined` (`text_list`).
use Rattle.std.proofs.Common.{◌≤◌, arith, rules, ap, ◌∙◌, length}
use Rattle.std.specs.List.{concat}
use Rattle.columns.proofs.Joined.{front_le, front_within, cut_joined}
use Rattle.columns.proofs.text_list.TextList.joined.Goals as goal

pub slice_bounds-result-count : goal.slice_bounds-result-count
slice_bounds-result-count c = rw (c.start.ensures, c.start-2.ensures) (front_le c.args.self.now c.args.from c.args.to (omega arith))

pub slice_bounds-result-start : goal.slice_bounds-result-start
slice_bounds-result-start c =
    let n = ap length (c.deref.ensures.value ∙ c.self.invariant.joined_is) in
    let s = ap (λ ts. length (concat ts)) c.self.view_is in
    let t : c.start-2.result ≤ length c.deref.result.now = omega (arith, front_within c.args.self.now c.args.to) in
    let u : c.start.result ≤ c.start-2.result = rw (c.start.ensures, c.start-2.ensures) (front_le c.args.self.now c.args.from c.args.to (omega arith)) in
    let v : c.start.result ≤ length c.deref.result.now = omega arith in
    search rules

pub slice_bounds-result-end : goal.slice_bounds-result-end
slice_bounds-result-end c =
    let n = ap length (c.deref.ensures.value ∙ c.self.invariant.joined_is) in
    let s = ap (λ ts. length (concat ts)) c.self.view_is in
    let t : c.start-2.result ≤ length c.deref.result.now = omega (arith, front_within c.args.self.now c.args.to) in
    let u : c.start.result ≤ c.start-2.result = rw (c.start.ensures, c.start-2.ensures) (front_le c.args.self.now c.args.from c.args.to (omega arith)) in
    let v : c.start.result ≤ length c.deref.result.now = omega arith in
    search rules

pub returns-clause-value : goal.returns-clause-value
returns-clause-value c = rw (c.deref.ensures.value, c.self.invariant.joined_is, c.self.view_is) (cut_joined c.args.self.now c.args.from c.args.to c.start.result c.start-2.result (omega arith) c.start.ensures c.start-2.ensures)
