-- What gathered files say, whatever their order, each the contract of a function of `src/laws.rt`.
use Rattle.std.specs.Prelude.{◌≡◌, ◌↔◌, ℕ, Bool, ◌<◌, List, [], length, sum, Contains}
use Rattle.meaning.specs.Answer.{own}
use Rattle.meaning.specs.Cut.{numbered}
use Rattle.meaning.specs.Gather.{is_conflict, fragments_where}
use Rattle.meaning.specs.Meaning.{meaning}
use Rattle.meaning.specs.Order.{Row}
use Rattle.meaning.specs.Print.{output_text, report_text}
use Rattle.partial_codec.specs.Job.{JobSpec}
use Rattle.partial_codec.specs.State.{state_bytes}
use Rattle.jobs.specs.Gathering.{Taking, answer, gathered, shown}

-- files with the same members, in any order and however often
abbrev pub SameTakings : List Taking → List Taking → Type 0
SameTakings xs ys = (t : Taking) → Contains xs t ↔ Contains ys t

-- they make one state, with one spelling and one print, whether it is the report or a preview
pub record SaySame (job : JobSpec) (xs ys : List Taking) : Type 0 where
  pub state : gathered job.cut xs ≡ gathered job.cut ys
  pub bytes : state_bytes job (gathered job.cut xs) ≡ state_bytes job (gathered job.cut ys)
  pub print : (asked : Bool) → report_text job.plan (shown asked job.plan (gathered job.cut xs)) ≡ report_text job.plan (shown asked job.plan (gathered job.cut ys))

abbrev pub AnswersAreJoined : Type 0
AnswersAreJoined = (job : JobSpec) (xs ys : List Taking) → SameTakings xs ys → SaySame job xs ys

-- once every fragment's own answer is among the files and none conflicts, what is printed is the query's meaning over
-- the whole table, whether it is the report or a preview
abbrev pub OwnAnswersMean : Type 0
OwnAnswersMean = (job : JobSpec) (dims : List (List Row)) (rows : List Row) (takings : List Taking)
    → sum job.cut ≡ length rows
    → ((k : ℕ) → k < length job.cut → Contains takings (answer (own job.plan dims job.cut rows k)))
    → fragments_where is_conflict (gathered job.cut takings) ≡ []
    → (asked : Bool) → report_text job.plan (shown asked job.plan (gathered job.cut takings)) ≡ output_text job.plan (meaning job.plan dims (numbered rows))
