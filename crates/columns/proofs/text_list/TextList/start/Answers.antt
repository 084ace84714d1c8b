-- Proofs of the goals of `TextList::start` (`text_list`).
use Rattle.std.proofs.Common.{◌≡◌, ◌+◌, ◌-◌, arith, ap, sym, ◌∙◌, length, take}
use Rattle.std.specs.List.{concat}
use Rattle.columns.specs.Texts.{texts_from}
use Rattle.columns.proofs.Joined.{length-texts_from, end_read}
use Rattle.columns.proofs.text_list.TextList.start.Goals as goal

pub index-requires : goal.index-requires
index-requires c = omega (arith, length-texts_from 0 c.self.inside.ends.items c.self.inside.joined.items, ap length c.self.view_is, c.self.inside.ends.ok.0)

pub returns : goal.returns
returns c =
    let long = length-texts_from 0 c.self.inside.ends.items c.self.inside.joined.items in
    let same = ap length c.self.view_is in
    let e = end_read _ _ _ (c.args.index - 1) _ c.self.invariant (omega arith) (sym long) c.index.ensures in
    let p : (c.args.index - 1) + 1 ≡ c.args.index = omega arith in
    e ∙ (ap (λ n. length (concat (take n (texts_from 0 c.self.inside.ends.items c.self.inside.joined.items)))) p ∙ ap (λ ts. length (concat (take c.args.index ts))) c.self.view_is)
