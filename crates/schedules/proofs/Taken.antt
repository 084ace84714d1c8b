-- What a coordinator holds after a packet.
use Rattle.std.proofs.Common.{◌≡◌, ℕ, ◌<◌, List, [], ◌∷◌, ◌++◌, sym, subst, ap, ◌∙◌, Option, Some, Ok, Err, Result}
use Rattle.std.specs.Prelude.{OnOk, Vec, option_to_list, slice_index_or}
use Rattle.std.specs.Result.{result_ok}
use Rattle.std.specs.declared.alloc.Global.{Global}
use Rattle.meaning.specs.Gather.{joined}
use Rattle.meaning.specs.Said.{Answer, Cell}
use Rattle.meaning_laws.specs.Heard.{Answers}
use Rattle.meaning_laws.proofs.Cells.{joined-append}
use Rattle.partial_codec.specs.Answer.{Spells, judged}
use Rattle.partial_codec.specs.Job.{IsJob, JobSpec}
use Rattle.partial_codec.specs.State.{SpellsState, state_bytes}
use Rattle.answer_fields.specs.declared.fault.DecodeFault.{DecodeFault}
use Rattle.partial_codec.proofs.Answers.{answer_takes, spelled_reads}
use Rattle.partial_codec.proofs.States.{spelled_state_reads, written_state_spells}
use Rattle.gathering.specs.Gathering.{GatherSpec, IsGather, Joins, Takes, join_states}
use Rattle.gathering.specs.declared.gather.Absorbed.{Absorbed}
use Rattle.gathering.proofs.StateFiles.{fits_state}
use Rattle.schedules.specs.declared.world.Packet.{Packet}
use Rattle.schedules.specs.declared.world.Packet.TheVariants as packet
use Rattle.schedules.specs.World.{Holds, IsPacket, IsSaved, answer_in}

-- an answer's bytes hold that answer
pub is_answer : (job : JobSpec) (bytes : List ℕ) (a : Answer) → IsJob job → Spells job bytes a → option_to_list (answer_in job bytes) ≡ a ∷ []
is_answer job bytes a is_job spelled = ap (λ (r : Result Answer DecodeFault). option_to_list (result_ok r)) (spelled_reads job bytes a is_job spelled)

-- the answer is heard
pub posted : (job : JobSpec) (bytes : List ℕ) (old new : GatherSpec) (returned : Absorbed) (answers : Answers) → IsJob old.job → Takes old new bytes returned
    → ((heard : Answers) (a : Answer) → Spells old.job bytes a → old.cells ≡ joined old.job.cut heard → new.cells ≡ joined old.job.cut (heard ++ a ∷ []))
    → Holds job old answers → Holds job new (answers ++ option_to_list (answer_in job bytes))
posted job bytes old new returned answers is_job takes joins held = subst (λ (j : JobSpec). Holds j old answers → Holds j new (answers ++ option_to_list (answer_in j bytes))) held.job_is own held where
  own : Holds old.job old answers → Holds old.job new (answers ++ option_to_list (answer_in old.job bytes))
  own here = record {
    job_is = takes.job;
    cells_are = joins answers takes.answer takes.spelled here.cells_are
        ∙ ap (λ (xs : Answers). joined old.job.cut (answers ++ xs)) (sym (is_answer old.job bytes takes.answer is_job takes.spelled));
  }

ok_same : (a b : List Cell) → ◌≡◌ {A = Result (List Cell) DecodeFault} (Ok a) (Ok b) → a ≡ b
ok_same a b is = cc

-- a state's bytes spell one list of cells
pub one_state : (job : JobSpec) (bytes : List ℕ) (a b : List Cell) → IsJob job → SpellsState job bytes a → SpellsState job bytes b → a ≡ b
one_state job bytes a b is_job first second = ok_same a b (sym (spelled_state_reads job bytes a is_job first) ∙ spelled_state_reads job bytes b is_job second)

-- the states of two sets are that of both
pub shared_with : (job : JobSpec) (bytes : List ℕ) (old new : GatherSpec) (cells : List Cell) (answers others : Answers) → IsJob old.job → SpellsState old.job bytes cells → Joins old new cells
    → Holds job old answers → SpellsState job bytes (joined job.cut others) → Holds job new (answers ++ others)
shared_with job bytes old new cells answers others is_job spelled joins held theirs =
    subst (λ (j : JobSpec). Holds j old answers → SpellsState j bytes (joined j.cut others) → Holds j new (answers ++ others)) held.job_is own held theirs where
      own : Holds old.job old answers → SpellsState old.job bytes (joined old.job.cut others) → Holds old.job new (answers ++ others)
      own here there = record {
        job_is = joins.job;
        cells_are = joins.cells ∙ ap (λ (xs : List Cell). join_states xs cells) here.cells_are
            ∙ ap (λ (xs : List Cell). join_states (joined old.job.cut answers) xs) (one_state old.job bytes cells (joined old.job.cut others) is_job spelled there)
            ∙ sym (joined-append old.job.cut answers others);
      }

-- what a state's bytes do, a packet of them does
pub of_state : {X E : Type 0} (result : Result X E) (sent : Packet) (bytes : Vec ℕ Global) (lent : List ℕ) (old new : GatherSpec) → sent ≡ packet.State bytes → lent ≡ bytes.items
    → OnOk result ((job : JobSpec) (answers others : Answers) → Holds job old answers → SpellsState job lent (joined job.cut others) → Holds job new (answers ++ others))
    → OnOk result ((job : JobSpec) (answers others : Answers) → Holds job old answers → IsPacket job sent others → Holds job new (answers ++ others))
of_state (Ok x) sent bytes lent old new is same does = λ job answers others held sent_so.
    does job answers others held (subst (λ bs. SpellsState job bs (joined job.cut others)) (sym same) (subst (λ p. IsPacket job p others) is sent_so))
of_state (Err e) sent bytes lent old new is same does = tt

-- ---- states that are spelled, and read again

pub spelled_as : (job : JobSpec) (g : GatherSpec) (bytes : List ℕ) (answers : Answers) → IsGather g → bytes ≡ state_bytes g.job g.cells → Holds job g answers → SpellsState job bytes (joined job.cut answers)
spelled_as job g bytes answers is_gather is held =
    let own : SpellsState g.job bytes g.cells = written_state_spells g.job bytes g.cells (fits_state g is_gather) is in
    subst (SpellsState job bytes) held.cells_are (subst (λ (j : JobSpec). SpellsState j bytes g.cells) held.job_is own)

pub restored_as : (job copy : JobSpec) (g : GatherSpec) (bytes : Vec ℕ Global) (lent : List ℕ) (saved : Option (Vec ℕ Global)) (answers : Answers) → IsJob job → copy ≡ job → g.job ≡ copy
    → SpellsState copy lent g.cells → saved ≡ Some bytes → lent ≡ bytes.items → IsSaved job saved answers → Holds job g answers
restored_as job copy g bytes lent saved answers is_job same own reads is lent_is held = record {
  job_is = own ∙ same;
  cells_are = one_state job lent g.cells (joined job.cut answers) is_job (subst (λ (j : JobSpec). SpellsState j lent g.cells) same reads)
      (subst (λ bs. SpellsState job bs (joined job.cut answers)) (sym lent_is) (subst (λ s. IsSaved job s answers) is held));
}

-- what reading gives is what was spelled
pub reads_answer : (job : JobSpec) (bytes : List ℕ) (a : Answer) → IsJob job → Spells job bytes a → answer_in job bytes ≡ Some a
reads_answer job bytes a is_job spelled = ap (λ (r : Result Answer DecodeFault). result_ok r) (spelled_reads job bytes a is_job spelled)

some_ok : (read : Result Answer DecodeFault) (a : Answer) → result_ok read ≡ Some a → read ≡ Ok a
some_ok (Ok b) a is = cc
some_ok (Err e) a is = cc

pub spells_answer : (job : JobSpec) (bytes : List ℕ) (a : Answer) → ((i : ℕ) → slice_index_or bytes i 0 < 256) → answer_in job bytes ≡ Some a → Spells job bytes a
spells_answer job bytes a fits is = answer_takes job bytes a fits (some_ok (judged job bytes) a is)
