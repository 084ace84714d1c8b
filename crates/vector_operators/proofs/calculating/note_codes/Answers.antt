-- Proofs of the goals of `note_codes` (`calculating`).
use Rattle.std.proofs.Common.{◌≡◌, ◌<◌, ◌∙◌, sym, ap, subst, length, get_or, ℕ, Bool, false, Option}
use Rattle.std.specs.Prelude.{if◌then◌else◌}
use Rattle.vectors.specs.Selection.{is_among}
use Rattle.vector_operators.specs.Evaluated.{noted}
use Rattle.vector_operators.specs.Returned.{coded}
use Rattle.vector_operators.proofs.MarkedLanes.{first_selected}
use Rattle.vector_operators.proofs.calculating.note_codes.Goals as goal

pub returns : goal.returns
returns c =
    let s = c.args.selection.now in
    let held = c.args.fault.now.held in
    let codes = c.clear_null_lanes.new.codes in
    let kept = c.keep_flags.new.flags in
    let long : length kept ≡ s.below = c.keep_flags.ensures.long ∙ c.clear_null_lanes.ensures.long ∙ sym c.requires.below in
    let codes_long : s.below ≡ length codes = c.requires.below ∙ sym c.clear_null_lanes.ensures.long in
    let none : (i : ℕ) → i < s.below → is_among s.list i ≡ false → get_or kept i 0 ≡ 0 =
    λ i within apart. c.keep_flags.ensures.each i (subst (λ (k : ℕ). i < k) codes_long within) ∙ ap (λ (b : Bool). if b then get_or codes i 0 else 0) apart in
    record {
      selection = c.below.ensures.sound;
      cleared = kept;
      flags = λ i w.
          c.keep_flags.ensures.each i (subst (λ (k : ℕ). i < k) codes_long w.0)
          ∙ ap (λ (b : Bool). if b then get_or codes i 0 else 0) w.1
          ∙ c.clear_null_lanes.ensures.each i (subst (λ (k : ℕ). i < k) c.requires.below w.0);
      is_new = c.note_any.ensures ∙ ap (λ (found : Option ℕ). noted held (coded kept found)) (first_selected s kept c.below.ensures.sound long none);
    }
