-- Proofs of the goals of `refusal_at` (`refusing`).
use Rattle.std.proofs.Common.{sym}
use Rattle.std.proofs.lemmas.Bool.{ltb-true}
use Rattle.sql_reader.proofs.Answering.{end_here, reported_at}
use Rattle.sql_reader.proofs.refusing.refusal_at.Goals as goal

pub returns-in-Some : goal.returns-in-Some
returns-in-Some c =
    reported_at c.args.end c.args.index c.args.lexemes.now _ c.in-Some.lexeme.now c.refusal.result (ltb-true c.args.index _ (sym c.in-Some.ensures.lookup.0)) c.in-Some.ensures.lookup.1 c.refusal.ensures

pub returns-in-None : goal.returns-in-None
returns-in-None c = end_here c.args.end c.args.index c.args.lexemes.now c.in-None.ensures.lookup.3
