-- What two coordinators of one job can rely on, each of it the contract of a function of `src/laws.rt`.
use Rattle.std.specs.Prelude.{◌≡◌, List}
use Rattle.meaning.specs.Said.{Answer}
use Rattle.meaning.specs.Said.{Cell}
use Rattle.meaning.specs.Gather.{joined, report}
use Rattle.meaning_laws.specs.Laws.{SameAnswers}
use Rattle.meaning.specs.Print.{report_text}
use Rattle.partial_codec.specs.Job.{JobSpec}
use Rattle.partial_codec.specs.State.{state_bytes}
use Rattle.gathering.specs.Gathering.{join_states}

-- two sets of answers with the same members make one state, with one spelling and one print
pub record SameAnswersSameBytes (job : JobSpec) (xs ys : List Answer) : Type 0 where
  pub state : joined job.cut xs ≡ joined job.cut ys
  pub bytes : state_bytes job (joined job.cut xs) ≡ state_bytes job (joined job.cut ys)
  pub print : report_text job.plan (report job.plan (joined job.cut xs)) ≡ report_text job.plan (report job.plan (joined job.cut ys))

-- the same, for all jobs and all answers
abbrev pub AnswersDecide : Type 0
AnswersDecide = (job : JobSpec) (xs ys : List Answer) → SameAnswers xs ys → SameAnswersSameBytes job xs ys

-- joining states is commutative, associative and idempotent
pub record StatesJoin : Type 0 where
  pub commutes : (xs ys : List Cell) → join_states xs ys ≡ join_states ys xs
  pub associates : (xs ys zs : List Cell) → join_states (join_states xs ys) zs ≡ join_states xs (join_states ys zs)
  pub repeats : (xs : List Cell) → join_states xs xs ≡ xs
