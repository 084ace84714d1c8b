use Rattle.command_line.proofs.Steps.{flag_read, name_read}
use Rattle.command_line.proofs.reading.take_name.Goals as goal

pub returns-then-is_flag : goal.returns-then-is_flag
returns-then-is_flag c = λ a_name some.
    flag_read _ _ _ c.in_ok-add_flag.ensures.0 c.in_ok-add_flag.ensures.1 c.in_ok-add_flag.ensures.2 a_name some (c.is_flag.ensures.flag c.if-is_flag.true)

pub returns : goal.returns
returns c = λ a_name some. name_read _ c.args.name a_name some (c.is_flag.ensures.valued c.if-is_flag.false)
