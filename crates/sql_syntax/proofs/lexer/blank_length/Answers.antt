-- Proofs of the goals of `blank_length` (`lexer`).
use Rattle.sql_syntax.proofs.Runs.{boundary_behind}
use Rattle.sql_syntax.proofs.lexer.blank_length.Goals as goal

pub returns-then-not-is_blank-clause-boundary : goal.returns-then-not-is_blank-clause-boundary
returns-then-not-is_blank-clause-boundary c =
    boundary_behind c.args.bytes.now c.loop-at.at c.requires c.loop-at.invariant.in_range (c.loop-at.invariant.ascii c.if-in_comment.false)
