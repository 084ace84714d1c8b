-- Proofs of the goals of `TextList::push` (`text_list`).
use Rattle.std.proofs.Common.{◌≡◌, arith, ◌∙◌, ap, length, ◌++◌, ◌∷◌, []}
use Rattle.columns.specs.Texts.{AreTexts, texts_from}
use Rattle.columns.proofs.Joined.{texts_pushed}
use Rattle.columns.proofs.text_list.TextList.push.Goals as goal

pushed : (c : goal.After-push_reserved) → AreTexts c.push_reserved.new.self.items c.extend_from_slice.new.self.items (texts_from 0 c.push_reserved.new.self.items c.extend_from_slice.new.self.items) × (texts_from 0 c.push_reserved.new.self.items c.extend_from_slice.new.self.items ≡ texts_from 0 c.self.inside.ends.items c.self.inside.joined.items ++ c.args.text.now ∷ [])
pushed c =
    let n : c.len.result ≡ length c.extend_from_slice.new.self.items = omega (arith, c.len.ensures, c.extend_from_slice.new.self.ok.0) in
    let ends = c.push_reserved.ensures.items ∙ ap (λ xs. xs ++ c.len.result ∷ []) c.reserve.ensures.items in
    texts_pushed c.self.inside.ends.items c.self.inside.joined.items _ c.args.text.now _ _ _ c.self.invariant c.requires ends c.in_ok-extend_from_slice.ensures.items n

pub invariant_of-self-2 : goal.invariant_of-self-2
invariant_of-self-2 c = (pushed c).0

pub returns-clause-ok : goal.returns-clause-ok
returns-clause-ok c = (pushed c).1 ∙ ap (λ ts. ts ++ c.args.text.now ∷ []) c.self.view_is
