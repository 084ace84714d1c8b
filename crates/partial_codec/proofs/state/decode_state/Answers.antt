-- Proofs of the goals of `decode_state` (`state`).
use Rattle.std.proofs.Common.{List, ℕ, Result, Ok, Err, sym, ◌∙◌}
use Rattle.std.specs.Prelude.{IfOk}
use Rattle.meaning.specs.Said.{Cell}
use Rattle.answer_fields.specs.declared.fault.DecodeFault.{DecodeFault}
use Rattle.partial_codec.specs.Job.{JobSpec, IsJob}
use Rattle.meaning.specs.Wanting.{GivesIfMemory}
use Rattle.partial_codec.specs.State.{SpellsState, judged_state}
use Rattle.wire.proofs.Numbers.{IsBytes}
use Rattle.answer_fields.specs.declared.fault.DecodeFault.TheVariants.{Memory}
use Rattle.partial_codec.proofs.States.{file_takes, spelled_state_reads}
use Rattle.partial_codec.proofs.state.decode_state.Goals as goal

-- the same for a `Vec`, of which `items` gives the elements
module _ {V : Type 0} (items : V → List Cell) where
  is_spelled : (job : JobSpec) (bytes : List ℕ) (r : Result V DecodeFault) → IsBytes bytes → GivesIfMemory Memory items r (judged_state job bytes) → IfOk r (λ v. SpellsState job bytes (items v))
  is_spelled job bytes (Ok v) ok read = file_takes job bytes (items v) ok read
  is_spelled job bytes (Err e) ok read = tt

  is_given : (job : JobSpec) (bytes : List ℕ) (cells : List Cell) (r : Result V DecodeFault) → IsJob job → SpellsState job bytes cells → GivesIfMemory Memory items r (judged_state job bytes) → GivesIfMemory Memory items r (Ok cells)
  is_given job bytes cells (Ok v) is spells read = sym (spelled_state_reads job bytes cells is spells) ∙ read
  is_given job bytes cells (Err e) is spells read = λ not_memory. sym (spelled_state_reads job bytes cells is spells) ∙ read not_memory

pub returns-clause-spelled : goal.returns-clause-spelled
returns-clause-spelled c = is_spelled (λ v. v.items) c.args.job.now c.args.bytes.now c.judge_state.result (λ i. (c.type_inv.bytes i).fits) c.judge_state.ensures.exact

pub returns-clause-complete : goal.returns-clause-complete
returns-clause-complete c = λ cells spells. is_given (λ v. v.items) c.args.job.now c.args.bytes.now cells c.judge_state.result c.judge_state.ensures.within_limits spells c.judge_state.ensures.exact
