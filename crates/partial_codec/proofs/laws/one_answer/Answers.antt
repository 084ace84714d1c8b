-- Proofs of the goals of `one_answer` (`laws`).
use Rattle.std.proofs.Common.{sym, ◌∙◌}
use Rattle.wire.proofs.Numbers.{ok_is}
use Rattle.partial_codec.proofs.Answers.{spelled_reads}
use Rattle.partial_codec.proofs.laws.one_answer.Goals as goal

pub returns : goal.returns
returns c = λ job bytes a b is one two. ok_is a b (sym (spelled_reads job bytes a is one) ∙ spelled_reads job bytes b is two)
