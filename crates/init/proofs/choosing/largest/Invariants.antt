-- Loop invariants of `largest` (`choosing`).
use Rattle.init.proofs.Largest.{IsFirst, IsMost}
use Rattle.init.proofs.choosing.largest.Given as goal

abbrev pub invariant-loop-file : goal.invariant-loop-file
invariant-loop-file l = record { first : IsFirst l.files l.most; largest : IsMost l.files l.file-index l.most }
