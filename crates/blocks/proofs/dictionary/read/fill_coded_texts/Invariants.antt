-- Loop invariants of `fill_coded_texts` (`dictionary::read`).
use Rattle.std.proofs.Common.{◌≡◌, take, drop, map, get_or, []}
use Rattle.blocks.specs.Dictionary.{codes_in}
use Rattle.blocks.specs.Plain.{texts_in}
use Rattle.blocks.proofs.dictionary.read.fill_coded_texts.Given as goal

abbrev pub invariant-loop-i : goal.invariant-loop-i
invariant-loop-i l = take l.i (map (λ t. t.now) l.out) ≡ take l.i (drop l.from (map (λ code. get_or (texts_in l.entries.ends.now l.entries.joined.now) code []) (codes_in l.codes)))
