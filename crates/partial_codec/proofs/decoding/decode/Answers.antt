-- Proofs of the goals of `decode` (`decoding`).
use Rattle.std.proofs.Common.{List, ℕ, Result, Ok, Err, sym, ◌∙◌}
use Rattle.std.specs.Prelude.{IfOk}
use Rattle.meaning.specs.Said.{Answer}
use Rattle.answer_fields.specs.declared.fault.DecodeFault.{DecodeFault}
use Rattle.partial_codec.specs.Answer.{Spells, judged}
use Rattle.partial_codec.specs.Job.{JobSpec, IsJob}
use Rattle.meaning.specs.Wanting.{GivesIfMemory}
use Rattle.wire.proofs.Numbers.{IsBytes}
use Rattle.answer_fields.specs.declared.fault.DecodeFault.TheVariants.{Memory}
use Rattle.partial_codec.proofs.Answers.{answer_takes, spelled_reads}
use Rattle.partial_codec.proofs.decoding.decode.Goals as goal

is_spelled : (job : JobSpec) (bytes : List ℕ) (r : Result Answer DecodeFault) → IsBytes bytes → GivesIfMemory Memory (λ a. a) r (judged job bytes) → IfOk r (λ a. Spells job bytes a)
is_spelled job bytes (Ok a) ok read = answer_takes job bytes a ok read
is_spelled job bytes (Err e) ok read = tt

is_given : (job : JobSpec) (bytes : List ℕ) (a : Answer) (r : Result Answer DecodeFault) → IsJob job → Spells job bytes a → GivesIfMemory Memory (λ b. b) r (judged job bytes) → GivesIfMemory Memory (λ b. b) r (Ok a)
is_given job bytes a (Ok b) is spells read = sym (spelled_reads job bytes a is spells) ∙ read
is_given job bytes a (Err e) is spells read = λ not_memory. sym (spelled_reads job bytes a is spells) ∙ read not_memory

pub returns-clause-spelled : goal.returns-clause-spelled
returns-clause-spelled c = is_spelled c.args.job.now c.args.bytes.now c.judge.result (λ i. (c.type_inv.bytes i).fits) c.judge.ensures.exact

pub returns-clause-complete : goal.returns-clause-complete
returns-clause-complete c = λ a spells. is_given c.args.job.now c.args.bytes.now a c.judge.result c.judge.ensures.within_limits spells c.judge.ensures.exact
