-- Proofs of the goals of `Cells::push_blank` (`cells`).
use Rattle.std.proofs.Common.{◌≡◌, true, refl, ap, subst, ◌∙◌}
use Rattle.std.specs.Str.{is_utf8}
use Rattle.std.proofs.lemmas.Str.{is_utf8-from_IsUtf8}
use Rattle.meaning.proofs.Tests.{both}
use Rattle.columns.specs.Column.{is_text}
use Rattle.columns.proofs.cells.Cells.push_blank.Goals as goal

pub push-requires-in-Texts : goal.push-requires-in-Texts
push-requires-in-Texts c =
    let utf8 = subst (λ t. is_utf8 t ≡ true) c.as_bytes.ensures.value (is_utf8-from_IsUtf8 _ c.as_bytes.ensures.utf8) in
    ap is_text c.as_bytes.ensures.value ∙ both _ _ utf8 refl
