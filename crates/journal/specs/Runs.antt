-- What becomes of a durable coordinator over a whole run, with stops and crashes.
use Rattle.std.specs.Prelude.{◌≡◌, ℕ, List, [], ◌∷◌}
use Rattle.std.specs.List.{Contains}
use Rattle.meaning.specs.Said.{Answer}
use Rattle.meaning.specs.Gather.{joined}
use Rattle.partial_codec.specs.Job.{JobSpec}
use Rattle.partial_codec.specs.Answer.{Spells}
use Rattle.gathering.specs.declared.gather.Absorbed.{Absorbed}
use Rattle.gathering.specs.Gathering.{GatherSpec, Takes}
use Rattle.journal.specs.Journal.{IsJournalOf}
use Rattle.journal.specs.Durable.{IsBeforeOrAfter}

-- Bytes are presented to `absorb`: it acknowledges them, or it refuses them and leaves everything as it was, or a crash
-- or a fault of the disk cuts it off, and the journal is opened again. Or there is a crash or a stop between two calls,
-- and the journal is opened again.
pub data Step : Type 0 where
  Acknowledged : (bytes : List ℕ) → Step
  Refused : (bytes : List ℕ) → Step
  CutOff : (bytes : List ℕ) → Step
  Reopened : Step

-- what is gathered behind a step: what was left of the disk is a file that is opened as a journal of it
abbrev pub LeadsTo : Step → GatherSpec → GatherSpec → Type 0
LeadsTo (Acknowledged bytes) old new = (returned : Absorbed) × Takes old new bytes returned
LeadsTo (Refused bytes) old new = new ≡ old
LeadsTo (CutOff bytes) old new = (file : List ℕ) × (new.job ≡ old.job) × IsBeforeOrAfter old bytes file × IsJournalOf new file
LeadsTo Reopened old new = (file : List ℕ) × (new.job ≡ old.job) × IsJournalOf old file × IsJournalOf new file

abbrev pub RunsTo : List Step → GatherSpec → GatherSpec → Type 0
RunsTo [] first last = last ≡ first
RunsTo (step ∷ steps) first last = (next : GatherSpec) × LeadsTo step first next × RunsTo steps next last

-- the bytes that were presented, and those of them that were acknowledged
abbrev pub presented : List Step → List (List ℕ)
presented [] = []
presented (Acknowledged bytes ∷ steps) = bytes ∷ presented steps
presented (Refused bytes ∷ steps) = bytes ∷ presented steps
presented (CutOff bytes ∷ steps) = bytes ∷ presented steps
presented (Reopened ∷ steps) = presented steps

abbrev pub acknowledged : List Step → List (List ℕ)
acknowledged [] = []
acknowledged (Acknowledged bytes ∷ steps) = bytes ∷ acknowledged steps
acknowledged (Refused bytes ∷ steps) = acknowledged steps
acknowledged (CutOff bytes ∷ steps) = acknowledged steps
acknowledged (Reopened ∷ steps) = acknowledged steps

-- What is gathered is the state of a set of answers: each acknowledged one is in it, and none that wasn't presented.
pub record HoldsAcknowledged (job : JobSpec) (steps : List Step) (last : GatherSpec) : Type 0 where
  pub answers : List Answer
  pub same_job : last.job ≡ job
  pub state : last.cells ≡ joined job.cut answers
  pub each : (bytes : List ℕ) → Contains (acknowledged steps) bytes → (a : Answer) × Contains answers a × Spells job bytes a
  pub others : (a : Answer) → Contains answers a → (bytes : List ℕ) × Contains (presented steps) bytes × Spells job bytes a
