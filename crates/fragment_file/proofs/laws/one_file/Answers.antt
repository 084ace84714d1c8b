-- Proofs of the goals of `one_file` (`laws`).
use Rattle.std.proofs.Common.{sym, ◌∙◌}
use Rattle.wire.proofs.Numbers.{ok_is}
use Rattle.fragment_file.proofs.FileLaws.{file_again}
use Rattle.fragment_file.proofs.laws.one_file.Goals as goal

pub returns : goal.returns
returns c = λ bytes f g one two. ok_is f g (sym (file_again bytes f one) ∙ file_again bytes g two)
