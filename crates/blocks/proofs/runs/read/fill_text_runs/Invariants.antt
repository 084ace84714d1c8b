-- Loop invariants of `fill_text_runs` (`runs::read`).
use Rattle.std.proofs.Common.{◌≤◌, length, take, drop, map}
use Rattle.blocks.specs.Dictionary.{codes_in}
use Rattle.blocks.specs.Plain.{texts_in}
use Rattle.blocks.specs.Runs.{repeats}
use Rattle.blocks.proofs.ReadLists.{AreLined}
use Rattle.blocks.proofs.runs.read.fill_text_runs.Given as goal

abbrev pub invariant-loop-run : goal.invariant-loop-run
invariant-loop-run l = record {
  within : l.done ≤ length l.out;
  lined : AreLined (take l.done (map (λ t. t.now) l.out)) l.skip (texts_in l.values.ends.now l.values.joined.now) (codes_in l.lengths) l.run
      (drop l.from (repeats (texts_in l.values.ends.now l.values.joined.now) (codes_in l.lengths)));
}
