-- Coordinators through any list of events, beside what each has heard.
use Rattle.std.specs.Prelude.{◌≡◌, ℕ, List, [], length, Option, Some, None, Vec, option_to_list, slice_get}
use Rattle.std.specs.List.{AllZip}
use Rattle.std.specs.Result.{result_ok}
use Rattle.std.specs.Vec.{vec_items}
use Rattle.std.specs.declared.alloc.Global.{Global}
use Rattle.meaning.specs.Gather.{joined}
use Rattle.meaning.specs.Said.{Answer}
use Rattle.meaning_laws.specs.Heard.{Answers}
use Rattle.meaning_laws.specs.Heard as heard
use Rattle.partial_codec.specs.Answer.{judged}
use Rattle.partial_codec.specs.Job.{JobSpec}
use Rattle.partial_codec.specs.State.{SpellsState}
use Rattle.gathering.specs.Gathering.{GatherSpec}
use Rattle.schedules.specs.declared.event.Event.{Event}
use Rattle.schedules.specs.declared.event.Event.TheVariants as event
use Rattle.schedules.specs.declared.world.Packet.{Packet}
use Rattle.schedules.specs.declared.world.Packet.TheVariants as packet
use Rattle.schedules.specs.declared.world.World.{World}

-- ---- what is promised

-- the answer that bytes spell for the job, if they spell one
abbrev pub answer_in : JobSpec → List ℕ → Option Answer
answer_in job bytes = result_ok (judged job bytes)

-- the event in the words of what is heard
abbrev pub event_of : JobSpec → Event → heard.Event
event_of job (event.Post bytes) = heard.post (answer_in job bytes.items)
event_of job (event.Share i) = heard.share i
event_of job (event.Take to packet) = heard.take to packet
event_of job (event.Save i) = heard.save i
event_of job (event.Restart i) = heard.restart i

-- a coordinator of the job holds the state of these answers
pub record Holds (job : JobSpec) (g : GatherSpec) (answers : Answers) : Type 0 where
  pub job_is : g.job ≡ job
  pub cells_are : g.cells ≡ joined job.cut answers

-- n coordinators of the job, each of which holds the state of what it has heard through the events
pub record AreCoordinators (job : JobSpec) (n : ℕ) (events : List heard.Event) (gathers : List GatherSpec) : Type 0 where
  pub as_many : length gathers ≡ n
  pub each : (i : ℕ) (g : GatherSpec) → slice_get gathers i ≡ Some g → Holds job g (heard.heard n i events)

-- ---- how the code holds it

-- posted bytes hold the answer that they spell; a state's bytes spell the state of the answers
abbrev pub IsPacket : JobSpec → Packet → Answers → Type 0
IsPacket job (packet.Posted bytes) answers = answers ≡ option_to_list (answer_in job bytes.now)
IsPacket job (packet.State bytes) answers = SpellsState job bytes.items (joined job.cut answers)

-- nothing was saved, or the state of the answers
abbrev pub IsSaved : JobSpec → Option (Vec ℕ Global) → Answers → Type 0
IsSaved job None answers = answers ≡ []
IsSaved job (Some bytes) answers = SpellsState job bytes.items (joined job.cut answers)

-- coordinators, packets and what was saved, beside what was heard
pub record Stands (job : JobSpec) (world : World) (w : heard.World) : Type 0 where
  pub held : AllZip (Holds job) (vec_items world.gathers) w.heard
  pub packets : AllZip (IsPacket job) (vec_items world.packets) w.packets
  pub saved : AllZip (IsSaved job) (vec_items world.saved) w.saved
  pub as_many : length w.heard ≡ length w.saved
