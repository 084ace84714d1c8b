-- Proofs of the goals of `returned` (`calculating`).
use Rattle.vector_operators.proofs.Flags.{noted_reports, returned_long}
use Rattle.vector_operators.proofs.calculating.returned.Goals as goal

pub returns-clause-exact : goal.returns-clause-exact
returns-clause-exact c =
    noted_reports c.args.selection.now c.args.operated.codes.items c.as_mut_slice.result.now c.args.operated.ints.items c.args.nulls c.new.result
    c.args.fault.now.held c.note_codes.new.fault.held c.as_mut_slice.ensures.value c.note_codes.ensures c.requires.ints c.requires.codes c.requires.nulls c.new.ensures

pub returns-clause-long : goal.returns-clause-long
returns-clause-long c =
    returned_long c.args.selection.now c.args.operated.codes.items c.as_mut_slice.result.now c.args.operated.ints.items c.args.nulls c.new.result
    c.args.fault.now.held c.note_codes.new.fault.held c.as_mut_slice.ensures.value c.note_codes.ensures c.requires.ints c.requires.codes c.requires.nulls c.new.ensures
