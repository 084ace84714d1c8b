-- Loop invariants of `take_fields` (`in_order`).
use Rattle.csv.specs.Records.{fields_of}
use Rattle.loader.proofs.InOrder.{HasFront}
use Rattle.loader.proofs.in_order.take_fields.Given as goal

abbrev pub invariant-loop-i : goal.invariant-loop-i
invariant-loop-i l = HasFront l.declared l.row (fields_of l.fields) l.fn.columns l.i l.columns
