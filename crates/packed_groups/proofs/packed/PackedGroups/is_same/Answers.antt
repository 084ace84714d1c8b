-- Proofs of the goals of `is_same` (`packed`).
use Rattle.std.proofs.Common.{sym, ◌∙◌}
use Rattle.std.proofs.lemmas.Bool.{eqb-true}
use Rattle.std.specs.Cmp.Lexicographic.{bytes_decides}
use Rattle.packed_groups.proofs.PackedBytes.{same_bytes, same_groups}
use Rattle.packed_groups.proofs.packed.PackedGroups.is_same.Goals as goal

pub returns-then-self-other : goal.returns-then-self-other
returns-then-self-other c =
    let one = c.self.inside.bytes.items in
    let other = c.other.inside.bytes.items in
    let decides = bytes_decides one other in (
      λ yes. sym c.self.view_is ∙ same_groups c.self.inside.many c.other.inside.many one other c.if-self-other.true (decides.0 (sym c.eq.ensures ∙ yes)) ∙ c.other.view_is,
      λ same. c.eq.ensures ∙ decides.1 (same_bytes c.self.inside.many c.other.inside.many one other c.self.invariant c.other.invariant (c.self.view_is ∙ same ∙ sym c.other.view_is)).1,
    )

pub returns-else-self-other : goal.returns-else-self-other
returns-else-self-other c =
    let one = c.self.inside.bytes.items in
    let other = c.other.inside.bytes.items in (
      λ yes. absurd (c.if-self-other.false (eqb-true c.self.inside.many c.other.inside.many yes)),
      λ same. absurd (c.if-self-other.false (same_bytes c.self.inside.many c.other.inside.many one other c.self.invariant c.other.invariant (c.self.view_is ∙ same ∙ sym c.other.view_is)).0),
    )
