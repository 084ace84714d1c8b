-- Proofs of the goals of `one_table_slice` (`laws`).
use Rattle.std.proofs.Common.{◌≡◌, sym, ap, ◌∙◌}
use Rattle.fragment_file.specs.Fragment.{FragmentSpec, columns_in}
use Rattle.wire.proofs.Numbers.{ok_is}
use Rattle.fragment_file.proofs.FileLaws.{file_again}
use Rattle.fragment_file.proofs.laws.one_table_slice.Goals as goal

pub returns : goal.returns
returns c = λ bytes h k cs ds one two.
    let same : one.file ≡ two.file = ok_is one.file two.file (sym (file_again bytes one.file one.spelled) ∙ file_again bytes two.file two.spelled) in
    (sym one.header_is ∙ ap (λ (f : FragmentSpec). f.header) same ∙ two.header_is, sym one.columns_are ∙ ap columns_in same ∙ two.columns_are)
