-- Proofs of the goals of `is_byte_within` (`like`).
use Rattle.std.proofs.Common.{◌≡◌, get_or, [], ◌∷◌, ◌++◌, ◌∙◌, subst, sym}
use Rattle.std.specs.Str.Iter.{HasSubslice}
use Rattle.meaning.specs.Like.{is_like}
use Rattle.meaning.proofs.LikeBytes.{like_bytes}
use Rattle.lane_loops.proofs.Likes.{same_test}
use Rattle.lane_loops.proofs.PatternParts.{byte_from, byte_to, only_byte}
use Rattle.lane_loops.proofs.like.is_byte_within.Goals as goal

pub returns : goal.returns
returns c = λ utf8.
    let part = c.args.part.now in
    let text = c.args.text.now in
    let byte = get_or part 0 0 in
    let within = (like_bytes part text c.requires.part.0 c.requires.part.1 utf8).within in
    let only : part ≡ byte ∷ [] = only_byte part 0 c.requires.one in
    c.has_byte.ensures ∙ same_test _ (is_like (37 ∷ (part ++ 37 ∷ [])) text)
    (λ e. within.1 (subst (HasSubslice text) (sym only) (byte_to byte text e))) (λ e. byte_from byte text (subst (HasSubslice text) only (within.0 e)))
