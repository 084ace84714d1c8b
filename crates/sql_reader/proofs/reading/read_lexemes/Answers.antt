-- Proofs of the goals of `read_lexemes` (`reading`).
use Rattle.sql_reader.proofs.Answering.{kept_answers, stopped_answers}
use Rattle.sql_reader.proofs.reading.read_lexemes.Goals as goal

pub returns-in-Ok : goal.returns-in-Ok
returns-in-Ok c = kept_answers c.args.end c.args.lexemes.now c.in-Ok.query c.if_short.result c.in-Ok.ensures c.if_short.ensures

pub returns-in-Err : goal.returns-in-Err
returns-in-Err c = stopped_answers c.args.end c.args.lexemes.now c.in-Err.stop c.fault_of.result c.in-Err.ensures c.fault_of.ensures
