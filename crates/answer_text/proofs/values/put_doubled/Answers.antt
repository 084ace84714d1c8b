-- Proofs of the goals of `put_doubled` (`values`).
use Rattle.std.proofs.Common.{rules, append_assoc}
use Rattle.sql_syntax.proofs.Doubling.{doubled_cut}
use Rattle.answer_text.proofs.values.put_doubled.Goals as goal

pub loop-front-preserved : goal.loop-front-preserved
loop-front-preserved c = record {
  utf8 = search rules;
  so_far = let cut = doubled_cut c.loop-front.rest.now c.in-Some.front.now c.in-Some.behind.now c.in-Some.ensures in search (rules, cut, append_assoc);
}
