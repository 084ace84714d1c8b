-- Loop invariants of `are_words_of` (`check`).
use Rattle.partial_codec.proofs.Words.{AreLeft}
use Rattle.partial_codec.proofs.check.are_words_of.Given as goal

abbrev pub invariant-loop-length : goal.invariant-loop-length
invariant-loop-length l = AreLeft l.bytes l.lengths l.length-index l.rest
