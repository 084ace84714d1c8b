-- Proofs of the goals of `is_like` (`like`).
use Rattle.std.proofs.Common.{rules}
use Rattle.std.proofs.lemmas.Str.{chars_from_encodes}
use Rattle.meaning.specs.Like.{is_like}
use Rattle.row_oracle.proofs.like.is_like.Goals as goal

pub returns : goal.returns
unfolding is_like
returns c = search (rules, chars_from_encodes)
