use Rattle.command_line.proofs.Steps.{value_read}
use Rattle.command_line.proofs.reading.take_value.Goals as goal

pub returns : goal.returns
returns c =
    value_read _ _ c.args.name c.args.word.now c.in_ok-add.ensures.0 c.in_ok-add.ensures.1 c.in_ok-add.ensures.2 (c.may_be_value.ensures.value c.if-not-may_be_value.false)
