-- Proofs of the goals of `are_rows_possible` (`check`).
use Rattle.std.proofs.Common.{◌≡◌, Bool, true, false, ◌&&◌, eqb, List, [], ◌∷◌, length, refl, sym, ap, ◌∙◌}
use Rattle.std.proofs.Math.Dec.{eqb-suc-zero}
use Rattle.std.specs.Prelude.{not, nat_le}
use Rattle.std.specs.List.{list_all}
use Rattle.meaning.specs.declared.plan.GroupingKey.{GroupingKey}
use Rattle.meaning.specs.declared.answer.Group.{Group}
use Rattle.meaning.specs.Group.{certain_keys}
use Rattle.meaning.specs.Fitting.{are_rows_possible}
use Rattle.partial_codec.proofs.check.are_rows_possible.Goals as goal

one_group : (plain : Bool) (keys : List GroupingKey) (gs : List Group) → (not plain && eqb (length keys) 0) ≡ true → are_rows_possible (certain_keys plain keys) gs ≡ eqb (length gs) 1
one_group true keys gs e = absurd cc
one_group false [] gs e = refl
one_group false (k ∷ keys) gs e = let never = rw (eqb-suc-zero (length keys)) at e in absurd cc

many_groups : (plain : Bool) (keys : List GroupingKey) (gs : List Group) → (not plain && eqb (length keys) 0) ≡ false → are_rows_possible (certain_keys plain keys) gs ≡ list_all (λ g. nat_le 1 g.rows) gs
many_groups true keys gs e = refl
many_groups false [] gs e = absurd cc
many_groups false (k ∷ keys) gs e = refl

pub returns-then-has_certain_group : goal.returns-then-has_certain_group
returns-then-has_certain_group c = ap (λ n. eqb n 1) c.len.ensures ∙ sym (one_group c.args.plan.now.plain c.args.plan.now.keys c.args.groups.now (sym c.has_certain_group.ensures ∙ c.if-has_certain_group.true))

pub returns-else-has_certain_group : goal.returns-else-has_certain_group
returns-else-has_certain_group c = c.requires.with_rows ∙ sym (many_groups c.args.plan.now.plain c.args.plan.now.keys c.args.groups.now (sym c.has_certain_group.ensures ∙ c.if-has_certain_group.false))
