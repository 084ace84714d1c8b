-- Proofs of the goals of `take_field` (`in_order`).
use Rattle.loader.specs.Steps.{value_of}
use Rattle.loader.proofs.Declared.{takes_field}
use Rattle.loader.proofs.in_order.take_field.Goals as goal

pub push_field-requires-clause-taken : goal.push_field-requires-clause-taken
push_field-requires-clause-taken c =
    takes_field c.args.column.now c.args.declared.now c.requires.declared.0 c.requires.declared.1 c.args.row c.args.index c.args.field.now
    (value_of (c.in_ok-parsed.parsed, c.args.field.now)) c.in_ok-parsed.ensures
