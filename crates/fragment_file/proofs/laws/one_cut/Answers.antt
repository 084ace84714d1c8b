-- Proofs of the goals of `one_cut` (`laws`).
use Rattle.std.proofs.Common.{sym, ◌∙◌}
use Rattle.wire.proofs.Numbers.{ok_is}
use Rattle.fragment_file.proofs.CutLaws.{cut_again}
use Rattle.fragment_file.proofs.laws.one_cut.Goals as goal

pub returns : goal.returns
returns c = λ bytes f g one two. ok_is f g (sym (cut_again bytes f one) ∙ cut_again bytes g two)
