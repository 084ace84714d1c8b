-- Proofs of the goals of `DurableGather::over_empty` (`durable`).
use Rattle.std.specs.Prelude.{true}
use Rattle.std.proofs.Common.{refl}
use Rattle.journal.proofs.Kept.{empty_kept, empty_lean, kept_durable}
use Rattle.journal.proofs.durable.DurableGather.over_empty.Goals as goal

pub invariant_of-result : goal.invariant_of-result
invariant_of-result g c = empty_kept (g.D.Disk.shown c.args.disk) (g.D.Disk.shown c.clear.new.disk) c.args.gather c.requires.room c.in-Ok.ensures.counts c.clear.ensures.honest c.requires.fresh c.in-Ok.ensures.cleared

pub returns-in-Ok-clause-lean : goal.returns-in-Ok-clause-lean
returns-in-Ok-clause-lean g c = empty_lean (g.D.Disk.shown c.args.disk) (g.D.Disk.shown c.clear.new.disk) c.args.gather.job c.clear.ensures.honest c.in-Ok.ensures.cleared

pub returns-in-Ok-clause-durable : goal.returns-in-Ok-clause-durable
returns-in-Ok-clause-durable g c = kept_durable 4 (record { disk = g.D.Disk.shown c.clear.new.disk; gather = c.args.gather; is_open = true }) (invariant_of-result g c) refl
