-- Proofs of the goals of `take_or_name` (`taking`).
use Rattle.std.proofs.Common.{subst}
use Rattle.std.specs.Io.KnownBytes.{Appends}
use Rattle.jobs.specs.PassedOver.{passed_over_line}
use Rattle.jobs.specs.Taking.{IsRefused, Leaves}
use Rattle.jobs.proofs.TakenFiles.{passed_over, taken_quietly, unkept}
use Rattle.jobs.proofs.taking.take_or_name.Goals as goal

pub returns-in-Ok-clause-takes : goal.returns-in-Ok-clause-takes
returns-in-Ok-clause-takes g c =
    taken_quietly g.T.TakesAnswers.journaled (g.T.TakesAnswers.held c.args.taker.now) (g.T.TakesAnswers.held c.take.new.self) c.args.path.now c.args.bytes.now (g.E.Write.contents c.args.err.now) c.in-Ok.ensures.taken

pub returns-in-Ok-print_passed_over-clause-takes : goal.returns-in-Ok-print_passed_over-clause-takes
returns-in-Ok-print_passed_over-clause-takes g c =
    let before = g.E.Write.contents c.args.err.now in
    let after = g.E.Write.contents c.print_passed_over.new.err in
    let held = g.T.TakesAnswers.held in
    passed_over g.T.TakesAnswers.journaled (held c.args.taker.now) (held c.take.new.self) c.args.path.now c.args.bytes.now c.in-Err-Refused.fault before after
    (subst (IsRefused g.T.TakesAnswers.journaled (g.T.TakesAnswers.failing c.args.taker.now).is_open (held c.args.taker.now).job c.args.bytes.now) c.in-Err-Refused.field-0-is c.in-Err-Refused.ensures.refused) (subst (Leaves (held c.args.taker.now) (held c.take.new.self)) c.in-Err-Refused.field-0-is c.in-Err-Refused.ensures.left)
    (subst (λ n. Appends before after (passed_over_line n c.args.path.now)) c.number.ensures
    (subst (λ p. Appends before after (passed_over_line c.number.result p)) c.as_str.ensures c.in-Ok-print_passed_over.ensures))

pub returns-in-Err-Journal-clause-refused : goal.returns-in-Err-Journal-clause-refused
returns-in-Err-Journal-clause-refused g c =
    unkept g.T.TakesAnswers.journaled (g.T.TakesAnswers.failing c.args.taker.now).is_open (g.T.TakesAnswers.held c.args.taker.now).job c.args.bytes.now c.in-Err-Journal.field-0 c.in-Err-Journal.fault c.requires c.in-Err-Journal.field-0-is c.in-Err-Journal.ensures.refused
