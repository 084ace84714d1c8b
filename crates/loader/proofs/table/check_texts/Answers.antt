-- Proofs of the goals of `check_texts` (`table`).
use Rattle.std.proofs.Common.{sym, subst, ◌∙◌}
use Rattle.csv.specs.Records.{fields_of}
use Rattle.meaning.specs.Records.{file_values}
use Rattle.meaning.specs.Wanting.{ReportsIfMemory}
use Rattle.loader.specs.Fault.{fault_returned}
use Rattle.loader.specs.Steps.{values_of}
use Rattle.loader.proofs.TextFields.{judged_texts}
use Rattle.loader.proofs.table.check_texts.Goals as goal

pub returns-clause-texts : goal.returns-clause-texts
returns-clause-texts c =
    let fields = fields_of c.args.fields.now in
    judged_texts (values_of c.judge_fields.new.parsed.items fields) c.args.declared.now c.args.order.now.columns.items c.args.row fields c.judge_fields.result c.requires (sym c.len.ensures ∙ c.if-len-declared.false) (subst (λ order. ReportsIfMemory fault_returned (λ _. values_of c.judge_fields.new.parsed.items fields) c.judge_fields.result (file_values c.args.declared.now order c.args.row fields)) c.deref.ensures.value c.judge_fields.ensures.read)
