-- Proofs of the goals of `fill` (`source`).
use Rattle.std.proofs.Common.{◌++◌, List, ℕ, take, drop, ap, sym, ◌∙◌, take-add, append_assoc}
use Rattle.group_reader.proofs.source.fill.Goals as goal

pub loop-count-preserved : goal.loop-count-preserved
loop-count-preserved g c = (
  c.in_ok-read.ensures.within,
  λ bytes known.
      let out = c.read_some.new.out in
      let count = c.loop-count.count in
      let n = c.in_ok-read.read in
      let before = c.loop-count.invariant.1 bytes known in
      let gave = c.in_ok-read.ensures.read before.0 before.1 in (
        gave.0,
        gave.1,
        before.2 ∙ ap (λ (front : List ℕ). front ++ before.0) (sym c.in_ok-read.ensures.kept)
            ∙ ap (λ (rest : List ℕ). take count out ++ rest) gave.2
            ∙ sym (append_assoc (take count out) (take n (drop count out)) gave.0)
            ∙ ap (λ (front : List ℕ). front ++ gave.0) (sym (take-add count n out)),
      ),
)
