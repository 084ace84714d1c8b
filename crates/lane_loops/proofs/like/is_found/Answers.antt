-- Proofs of the goals of `is_found` (`like`).
use Rattle.std.proofs.Common.{[], ◌∷◌, ◌++◌, ◌∙◌}
use Rattle.std.specs.Prelude.{is_some}
use Rattle.meaning.specs.Like.{is_like}
use Rattle.meaning.proofs.LikeBytes.{like_bytes}
use Rattle.lane_loops.proofs.Likes.{same_test}
use Rattle.lane_loops.proofs.PatternParts.{found_to, found_from}
use Rattle.lane_loops.proofs.like.is_found.Goals as goal

pub returns : goal.returns
returns c = λ utf8.
    let part = c.args.part.now in
    let text = c.args.text.now in
    let within = (like_bytes part text c.requires.0 c.requires.1 utf8).within in
    c.is_some.ensures ∙ same_test (is_some c.find.result) (is_like (37 ∷ (part ++ 37 ∷ [])) text)
    (λ e. within.1 (found_to text part c.find.result c.find.ensures e)) (λ e. found_from text part c.find.result c.find.ensures (within.0 e))
