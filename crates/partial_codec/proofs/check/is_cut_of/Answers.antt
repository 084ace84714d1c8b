-- Proofs of the goals of `is_cut_of` (`check`).
use Rattle.std.proofs.Common.{sym, ap, length, ◌∙◌, List, ℕ}
use Rattle.partial_codec.proofs.Words.{other_count}
use Rattle.partial_codec.proofs.check.is_cut_of.Goals as goal

pub returns-then-fields-lengths : goal.returns-then-fields-lengths
returns-then-fields-lengths c =
    let same = ap (λ (xs : List ℕ). length xs) (c.lengths-lengths.ensures.value ∙ c.cut.ensures) in
    sym (other_count c.args.fields.now.fragments c.args.fields.now.cut.now c.args.job.now.cut (λ e. c.if-fields-lengths.true (e ∙ sym same)))
