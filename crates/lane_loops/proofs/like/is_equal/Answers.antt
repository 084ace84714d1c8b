-- Proofs of the goals of `is_equal` (`like`).
use Rattle.std.proofs.Common.{rules, ◌≡◌, sym, ◌∙◌}
use Rattle.std.specs.Prelude.{bytes_eq}
use Rattle.meaning.proofs.LikeBytes.{like_bytes}
use Rattle.lane_loops.proofs.like.is_equal.Goals as goal

pub returns : goal.returns
returns c = λ utf8.
    let by = like_bytes c.args.part.now c.args.text.now c.requires.0 c.requires.1 utf8 in
    let eq : c.eq.result ≡ bytes_eq c.args.part.now c.args.text.now = search rules in
    eq ∙ sym by.equal
