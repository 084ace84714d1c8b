-- Proofs of the goals of `copy_cut` (`fragments`).
use Rattle.std.proofs.Common.{◌≡◌, ℕ, List, Ok, Err, sym, subst, ◌∙◌}
use Rattle.std.specs.Prelude.{Result}
use Rattle.meaning.specs.declared.cut.CutFault.{CutFault}
use Rattle.meaning.specs.Cut.{IsCut}
use Rattle.fragment_file.proofs.CutLaws.{cut_taken}
use Rattle.coordinator.proofs.fragments.copy_cut.Goals as goal

never : (lengths : List ℕ) (e : CutFault) → ◌≡◌ {A = Result (List ℕ) CutFault} (Ok lengths) (Err e) → ⊥
never lengths e same = cc

pub unreachable-requires : goal.unreachable-requires
unreachable-requires c =
    let lengths = c.in_ok-lengths.lengths.items in
    let is_cut = subst IsCut (sym (c.in_ok-lengths.ensures.items ∙ c.lengths.ensures.value)) c.lengths.ensures.within_limits in
    never lengths c.in-Err.field-0 (sym (cut_taken lengths is_cut) ∙ sym c.new.ensures ∙ c.in-Err.is)
