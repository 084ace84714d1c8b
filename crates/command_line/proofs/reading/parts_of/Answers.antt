use Rattle.std.proofs.Common.{inl, inr}
use Rattle.command_line.proofs.Steps.{none_read, one_read, all_read, all_these, all_but_value, none_further}
use Rattle.command_line.proofs.reading.parts_of.Goals as goal

pub loop-word-init : goal.loop-word-init
loop-word-init c = none_read _ _ c.new-parts.ensures.0 c.new-parts.ensures.1 c.new-parts.ensures.2

pub loop-word-preserved : goal.loop-word-preserved
loop-word-preserved c = one_read _ _ _ _ _ _ _ _ c.loop-word-test.true c.loop-word.invariant c.in_ok-after.ensures c.in-Some.is

pub returns-in_default-clause-only : goal.returns-in_default-clause-only
returns-in_default-clause-only c = none_further _ _ _ _ _ _ _ c.loop-word-test.true c.loop-word.invariant c.in_ok-after.ensures c.in_default.is

pub returns-in-ValueOf-clause-only : goal.returns-in-ValueOf-clause-only
returns-in-ValueOf-clause-only c = all_but_value _ _ _ _ _ c.loop-word-test.false c.loop-word.invariant c.in-ValueOf.is

pub returns-in-Any-clause-parts : goal.returns-in-Any-clause-parts
returns-in-Any-clause-parts c = all_read _ _ _ _ c.loop-word-test.false c.loop-word.invariant (inl c.in-Any.is)

pub returns-in-Any-clause-only : goal.returns-in-Any-clause-only
returns-in-Any-clause-only c = all_these _ _ _ _ c.loop-word-test.false c.loop-word.invariant (inl c.in-Any.is)

pub returns-clause-parts : goal.returns-clause-parts
returns-clause-parts c = all_read _ _ _ _ c.loop-word-test.false c.loop-word.invariant (inr c.in-Plain.is)

pub returns-clause-only : goal.returns-clause-only
returns-clause-only c = all_these _ _ _ _ c.loop-word-test.false c.loop-word.invariant (inr c.in-Plain.is)
