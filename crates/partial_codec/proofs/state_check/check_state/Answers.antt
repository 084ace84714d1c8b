-- Proofs of the goals of `check_state` (`state_check`).
use Rattle.std.proofs.Common.{List, length, ap, sym, ◌∙◌}
use Rattle.meaning.specs.Said.{Cell}
use Rattle.partial_codec.proofs.Words.{same_count}
use Rattle.partial_codec.proofs.state_check.check_state.Goals as goal

pub check_cells-requires-clause-fragments : goal.check_cells-requires-clause-fragments
check_cells-requires-clause-fragments c =
    ap (λ (cs : List Cell). length cs) c.deref-3.ensures.value ∙ c.requires.cells
    ∙ same_count c.args.layout.now.job.fragments c.args.layout.now.job.cut.now c.args.job.now.cut (sym c.is_cut_of.ensures ∙ c.if-not-is_cut_of.false)

pub check_cells-requires-clause-returned : goal.check_cells-requires-clause-returned
check_cells-requires-clause-returned c =
    ap (λ fs. length fs) c.deref-4.ensures.value ∙ c.requires.returned
    ∙ same_count c.args.layout.now.job.fragments c.args.layout.now.job.cut.now c.args.job.now.cut (sym c.is_cut_of.ensures ∙ c.if-not-is_cut_of.false)
