-- Loop invariants of `put_texts` (`runs::read`).
use Rattle.std.proofs.Common.{◌≡◌, ◌-◌, ◌++◌, take, map, replicate}
use Rattle.blocks.proofs.runs.read.put_texts.Given as goal

abbrev pub invariant-loop-i : goal.invariant-loop-i
invariant-loop-i l = take l.i (map (λ t. t.now) l.out) ≡ take l.at (map (λ t. t.now) l.initial.out) ++ replicate (l.i - l.at) l.text
