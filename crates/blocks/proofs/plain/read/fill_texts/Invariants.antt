-- Loop invariants of `fill_texts` (`plain::read`).
use Rattle.std.proofs.Common.{◌≡◌, take, drop, map}
use Rattle.blocks.specs.Plain.{texts_in}
use Rattle.blocks.proofs.plain.read.fill_texts.Given as goal

abbrev pub invariant-loop-i : goal.invariant-loop-i
invariant-loop-i l = take l.i (map (λ t. t.now) l.out) ≡ take l.i (drop l.from (texts_in l.texts.ends.now l.texts.joined.now))
