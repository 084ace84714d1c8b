-- What a coordinator holds, and what an answer does to it.
use Rattle.std.specs.Prelude.{◌≡◌, ◌≢◌, ℕ, ◌+◌, ◌≤◌, Bool, true, false, not, if◌then◌else◌, List, length, map, zip, slice_set, slice_index_or, Some, ⊤}
use Rattle.meaning.specs.Said.{Body}
use Rattle.meaning.specs.Said.{Answer}
use Rattle.meaning.specs.Said.{Cell}
use Rattle.meaning.specs.declared.answer.Cell.TheVariants.{Nothing, One, Conflict}
use Rattle.meaning.specs.Answer.{groups_of}
use Rattle.meaning.specs.Gather.{same_body, join_cells}
use Rattle.answer_fields.specs.declared.fault.DecodeFault.{DecodeFault}
use Rattle.answer_fields.specs.declared.fault.DecodeFault.TheVariants as refusal
use Rattle.answer_fields.specs.Fault as codec
use Rattle.partial_codec.specs.Job.{JobSpec}
use Rattle.partial_codec.specs.Answer.{Spells, obstacle}
use Rattle.partial_codec.specs.State.{state_obstacle}
use Rattle.gathering.specs.declared.gather.Absorbed.{Absorbed}
use Rattle.gathering.specs.declared.gather.Absorbed.TheVariants as absorbed
use Rattle.meaning.specs.SoundPlan.{IsSoundPlan}
use Rattle.gathering.specs.declared.fault.GatherFault.{GatherFault}
use Rattle.gathering.specs.declared.fault.GatherFault.TheVariants as fault
use Rattle.gathering.specs.declared.totals.Totals.{Totals}
use Rattle.gathering.specs.Fitted.{AreFitting}
use Rattle.gathering.specs.Joining.{all_deltas}
use Rattle.gathering.specs.Merging.{all_groups}
use Rattle.gathering.specs.Totals.{AreTotalsOf, handed_at_join, merges_of, most_merges}

-- what answers are for, what is held for each fragment, and how many groups were handed to tables so far
pub record GatherSpec : Type 0 where
  pub job : JobSpec
  pub cells : List Cell
  pub merges : ℕ

-- the plan is sound, and there is a cell for each fragment of the cut, in which an answer fits the job
pub record IsGather (g : GatherSpec) : Type 0 where
  pub sound : IsSoundPlan g.job.plan
  pub each : length g.cells ≡ length g.job.cut
  pub fitting : AreFitting g.job.plan g.job.cut g.cells

-- the same of the cells, and the totals are those of the answers in them, for which no more groups were handed to tables
-- than answers and conflicts ask for
pub record IsHeld (job : JobSpec) (cells : List Cell) (t : Totals) : Type 0 where
  pub gather : IsGather (record { job = job; cells = cells; merges = merges_of t })
  pub totals : AreTotalsOf job.plan cells t
  pub merges : merges_of t ≤ most_merges cells

-- what is held for a fragment
abbrev pub cell_at : List Cell → ℕ → Cell
cell_at cells k = slice_index_or cells k Nothing

-- the cells with one answer more
abbrev pub cells_with : List Cell → Answer → List Cell
cells_with cells a = slice_set cells a.k (join_cells (cell_at cells a.k) (One a.body))

-- two lists of cells as one, fragment by fragment
abbrev pub join_states : List Cell → List Cell → List Cell
join_states own others = map (λ p. join_cells p.0 p.1) (zip own others)

-- what is said of an answer: it is new, it is the one that is held, or it is in conflict
abbrev pub absorbed_as : Cell → ℕ → Body → Absorbed
absorbed_as Nothing k body = absorbed.New
absorbed_as (One known) k body = if same_body known body then absorbed.Known else absorbed.Conflict k
absorbed_as Conflict k body = absorbed.Conflict k

-- ---- groups that are handed to tables

-- how many are handed over for an answer at the least, and at the most: those of an answer that is new, and at a
-- conflict that is new at most those of the answers that are kept
abbrev pub least_handed : Cell → Body → ℕ
least_handed Nothing body = length (groups_of body)
least_handed (One known) body = 0
least_handed Conflict body = 0

abbrev pub most_handed : Cell → Body → List Cell → ℕ
most_handed Nothing body kept = length (groups_of body)
most_handed (One known) body kept = if same_body known body then 0 else length (all_groups kept)
most_handed Conflict body kept = 0

-- a number rises by so many at the least, and at the most
pub record Rises (least most old new : ℕ) : Type 0 where
  pub at_least : old + least ≤ new
  pub at_most : new ≤ old + most

-- the bytes spell an answer, and its cell is joined with it
pub record Takes (old new : GatherSpec) (bytes : List ℕ) (returned : Absorbed) : Type 0 where
  pub answer : Answer
  pub spelled : Spells old.job bytes answer
  pub job : new.job ≡ old.job
  pub cells : new.cells ≡ cells_with old.cells answer
  pub classified : returned ≡ absorbed_as (cell_at old.cells answer.k) answer.k answer.body
  pub counted : Rises (least_handed (cell_at old.cells answer.k) answer.body)
      (most_handed (cell_at old.cells answer.k) answer.body new.cells) old.merges new.merges

-- an answer would change what is held
abbrev pub changes : Cell → Body → Bool
changes Nothing body = true
changes (One known) body = not (same_body known body)
changes Conflict body = false

-- The bytes spell an answer. Returned are what is said of it where it is taken, and whether a cell changes: where none
-- does, a coordinator has taken it that stays just as it is.
pub record Would (g : GatherSpec) (bytes : List ℕ) (returned : Absorbed × Bool) : Type 0 where
  pub answer : Answer
  pub spelled : Spells g.job bytes answer
  pub classified : returned.0 ≡ absorbed_as (cell_at g.cells answer.k) answer.k answer.body
  pub same : returned.1 ≡ false → Takes g g bytes returned.0
  pub changed : returned.1 ≡ true → (a : Answer) → Spells g.job bytes a → cells_with g.cells a ≢ g.cells

-- the other cells are joined with the old ones, fragment by fragment
pub record Joins (old new : GatherSpec) (others : List Cell) : Type 0 where
  pub job : new.job ≡ old.job
  pub cells : new.cells ≡ join_states old.cells others
  pub counted : Rises 0 (handed_at_join old.cells (all_deltas old.cells others)) old.merges new.merges

-- the first obstacle to the bytes' being an answer is returned
abbrev pub Refuses : JobSpec → List ℕ → GatherFault → Type 0
Refuses job bytes fault.Memory = ⊤
Refuses job bytes (fault.Decode e) = obstacle job bytes ≡ Some e
Refuses job bytes fault.OtherJob = ⊥
Refuses job bytes fault.Writer = ⊥

-- the first obstacle to the bytes' being a state is returned
abbrev pub RefusesState : JobSpec → List ℕ → GatherFault → Type 0
RefusesState job bytes fault.Memory = ⊤
RefusesState job bytes (fault.Decode e) = state_obstacle job bytes ≡ Some e
RefusesState job bytes fault.OtherJob = ⊥
RefusesState job bytes fault.Writer = ⊥

-- the other's job is another, or memory ran out
abbrev pub RefusesJoin : JobSpec → JobSpec → GatherFault → Type 0
RefusesJoin job other fault.Memory = ⊤
RefusesJoin job other (fault.Decode e) = ⊥
RefusesJoin job other fault.OtherJob = job ≢ other
RefusesJoin job other fault.Writer = ⊥

-- out of memory is the coordinator's own refusal
abbrev pub fault_of : DecodeFault → GatherFault
fault_of refusal.Memory = fault.Memory
fault_of e = fault.Decode e

-- the error code of a refusal
abbrev pub number_of : GatherFault → ℕ
number_of fault.Memory = 0
number_of (fault.Decode e) = codec.number_of e
number_of fault.OtherJob = 11
number_of fault.Writer = 12
