-- What a crash leaves of a durable coordinator.
use Rattle.std.specs.Prelude.{◌≡◌, ℕ, ◌+◌, ◌<◌, ◌≤◌, ◌^◌, true, false, cond, List, [], ◌∷◌, ◌++◌, length, take, drop, slice_set}
use Rattle.std.proofs.Common.{inl, inr, refl, sym, ap, ◌∙◌, subst, arith}
use Rattle.std.proofs.lemmas.Bool.{false≢true}
use Rattle.std.proofs.lemmas.List.{append-nil, length-append, set-get_or}
use Rattle.meaning.specs.Said.{Answer, Body, Cell}
use Rattle.meaning.specs.declared.answer.Cell.TheVariants.{Nothing, One, Conflict}
use Rattle.meaning.specs.Gather.{join_cells, joined, same_body}
use Rattle.partial_codec.specs.Job.{JobSpec, IsJob}
use Rattle.partial_codec.specs.Answer.{Spells}
use Rattle.gathering.specs.declared.gather.Absorbed.{Absorbed}
use Rattle.gathering.specs.declared.gather.Absorbed.TheVariants as absorbed
use Rattle.gathering.specs.Gathering.{GatherSpec, IsGather, Takes, absorbed_as, cell_at, cells_with}
use Rattle.gathering.proofs.Held.{below, spelled_once}
use Rattle.disk.specs.Disk.{State, Synced, IsImage, DiskSpec, IsHonest, HasRoom, LeavesOnly}
use Rattle.disk.proofs.Counting.{CountsNothing, room_kept}
use Rattle.disk.proofs.Moments.{still, leaves_weaker}
use Rattle.disk.proofs.Writes.{synced_image}
use Rattle.journal.specs.Journal.{journal_magic, record_bytes, records_needed, IsWithOrWithout, IsJournalOf, IsLean}
use Rattle.journal.specs.Durable.{DurableSpec, IsDurable, IsBeforeOrAfter, IsJournalAt, IsKept, last_gate}
use Rattle.journal.proofs.Records.{is_closed_at, closed_journal, closed_is_journal, open_journal, open_is_journal, appended_at}
use Rattle.journal.proofs.OneJournal.{journal_same}
use Rattle.journal.proofs.Needed.{needs_more}
use Rattle.journal.proofs.NoRecords.{record_long}

-- what reads give is a journal of what is gathered, and so is all that a crash leaves
pub at_leaves : (gate : ℕ) (g : GatherSpec) (s : State) → IsJournalAt gate g s → (image : List ℕ) → IsImage s image → IsJournalOf g image
at_leaves gate g s at image left =
    subst (IsJournalOf g) (sym (synced_image s image at.synced left)) (closed_is_journal gate g s at s.reads (is_closed_at gate g s at).closed)

pub kept_durable : (gate : ℕ) (d : DurableSpec) → IsKept gate d → d.is_open ≡ true → IsDurable d
kept_durable gate d kept is_open honest = at_leaves gate d.gather d.disk.now (kept.journal is_open honest)

-- ---- without a call of the disk

pub unchanged_leaves : (gate : ℕ) (d : DurableSpec) (bytes : List ℕ) → IsKept gate d → d.is_open ≡ true → IsHonest d.disk → LeavesOnly d.disk d.disk (IsBeforeOrAfter d.gather bytes)
unchanged_leaves gate d bytes kept is_open honest =
    still d.disk (IsBeforeOrAfter d.gather bytes) (λ image left. inl (kept_durable gate d kept is_open honest image left))

pub unchanged_lean : (gate : ℕ) (d : DurableSpec) → IsKept gate d → d.is_open ≡ true → IsHonest d.disk → IsLean d.gather.job d.disk.now.reads → LeavesOnly d.disk d.disk (IsLean d.gather.job)
unchanged_lean gate d kept is_open honest lean =
    still d.disk (IsLean d.gather.job) (λ image left. subst (IsLean d.gather.job) (sym (synced_image d.disk.now image (kept.journal is_open honest).synced left)) lean)

-- nothing has changed, and so for a crash
abbrev pub Unchanged : List ℕ → DurableSpec → Type 0
Unchanged bytes d = d.is_open ≡ true → IsHonest d.disk → LeavesOnly d.disk d.disk (IsBeforeOrAfter d.gather bytes)

pub unchanged : (gate : ℕ) (inside d : DurableSpec) (bytes : List ℕ) → inside ≡ d → IsKept gate inside → Unchanged bytes d
unchanged gate inside d bytes is kept = subst (Unchanged bytes) is (unchanged_leaves gate inside bytes kept)

abbrev pub StaysLean : DurableSpec → Type 0
StaysLean d = d.is_open ≡ true → IsHonest d.disk → IsLean d.gather.job d.disk.now.reads → LeavesOnly d.disk d.disk (IsLean d.gather.job)

pub stays_lean : (gate : ℕ) (inside d : DurableSpec) → inside ≡ d → IsKept gate inside → StaysLean d
stays_lean gate inside d is kept = subst StaysLean is (unchanged_lean gate inside kept)

-- what is known of the fields, of the value
pub from_inside : (inside d : DurableSpec) (bytes : List ℕ) (new : DiskSpec) → inside ≡ d → (IsHonest inside.disk → LeavesOnly inside.disk new (IsBeforeOrAfter inside.gather bytes))
    → IsHonest d.disk → LeavesOnly d.disk new (IsBeforeOrAfter d.gather bytes)
from_inside inside d bytes new is leaves = subst (λ (d : DurableSpec). IsHonest d.disk → LeavesOnly d.disk new (IsBeforeOrAfter d.gather bytes)) is leaves

abbrev pub LeavesLean : DiskSpec → DurableSpec → Type 0
LeavesLean new d = IsHonest d.disk → IsLean d.gather.job d.disk.now.reads → LeavesOnly d.disk new (IsLean d.gather.job)

pub lean_from_inside : (inside d : DurableSpec) (new : DiskSpec) → inside ≡ d → LeavesLean new inside → LeavesLean new d
lean_from_inside inside d new is lean = subst (LeavesLean new) is lean

-- ---- while an answer is appended

-- a coordinator's promise of the sets that it holds
abbrev pub Joins : GatherSpec → GatherSpec → List ℕ → Type 0
Joins g after bytes = (answers : List Answer) (a : Answer) → Spells g.job bytes a → g.cells ≡ joined g.job.cut answers → after.cells ≡ joined g.job.cut (answers ++ a ∷ [])

-- .. from its promise of the one answer that the bytes spell
pub joins_spelled : (g after : GatherSpec) (bytes : List ℕ) (taken : Answer) → IsJob g.job → Spells g.job bytes taken
    → ((answers : List Answer) → g.cells ≡ joined g.job.cut answers → after.cells ≡ joined g.job.cut (answers ++ taken ∷ [])) → Joins g after bytes
joins_spelled g after bytes taken is_job spelled joins answers a spells e =
    joins answers e ∙ ap (λ (x : Answer). joined g.job.cut (answers ++ x ∷ [])) (sym (spelled_once g.job bytes taken a is_job spelled spells))

-- the answer changes what is held
abbrev pub Changes : GatherSpec → List ℕ → Type 0
Changes g bytes = (a : Answer) → Spells g.job bytes a → cells_with g.cells a ≡ g.cells → ⊥

-- an answer that changes what is held isn't known, and leaves other cells
new_is_not_known : absorbed.New ≡ absorbed.Known → ⊥
new_is_not_known e = cc

conflict_is_not_known : (k : ℕ) → absorbed.Conflict k ≡ absorbed.Known → ⊥
conflict_is_not_known k e = cc

stays_known : (c : Cell) (k : ℕ) (body : Body) → absorbed_as c k body ≡ absorbed.Known → join_cells c (One body) ≡ c
stays_known Nothing k body e = absurd (new_is_not_known e)
stays_known (One known) k body e =
    elim (same_body known body) as (λ t. cond t absorbed.Known (absorbed.Conflict k) ≡ absorbed.Known → cond t (One known) Conflict ≡ One known) [
      | true ↦ λ f. refl
      | false ↦ λ f. absurd (conflict_is_not_known k f)
    ] e
stays_known Conflict k body e = absurd (conflict_is_not_known k e)

pub is_not_known : (g after : GatherSpec) (returned : Absorbed) (bytes : List ℕ) → Takes g after bytes returned → Changes g bytes → returned ≡ absorbed.Known → ⊥
is_not_known g after returned bytes takes changes e =
    let a = takes.answer in
    changes a takes.spelled (ap (slice_set g.cells a.k) (stays_known (cell_at g.cells a.k) a.k a.body (sym takes.classified ∙ e)) ∙ set-get_or g.cells a.k Nothing)

pub leaves_others : (g after : GatherSpec) (returned : Absorbed) (bytes : List ℕ) → Takes g after bytes returned → Changes g bytes → after.cells ≡ g.cells → ⊥
leaves_others g after returned bytes takes changes same = changes takes.answer takes.spelled (sym takes.cells ∙ same)

-- with the record or without it
pub before_or_after : (gate : ℕ) (g after : GatherSpec) (s : State) (returned : Absorbed) (bytes : List ℕ) → IsJournalAt gate g s → Takes g after bytes returned → Joins g after bytes → length bytes < 2 ^ 32
    → (file : List ℕ) → IsWithOrWithout (take gate s.reads) (record_bytes bytes ++ 0 ∷ []) file → IsBeforeOrAfter g bytes file
before_or_after gate g after s returned bytes at takes joins short file (inl closed) = inl (closed_is_journal gate g s at file closed)
before_or_after gate g after s returned bytes at takes joins short file (inr is_open) =
    inr (after, returned, takes, open_is_journal gate g s at after takes.answer bytes file takes.job takes.spelled short (joins at.answers takes.answer takes.spelled at.state) is_open)

module _ (g after : GatherSpec) (returned : Absorbed) (bytes : List ℕ) (is : IsGather g) (takes : Takes g after bytes returned) (changes : Changes g bytes) where
  -- an answer that is taken and changes something needs one record more
  pub needs_one : records_needed after.cells ≡ records_needed g.cells + 1
  needs_one =
      ap records_needed takes.cells
      ∙ needs_more g.cells takes.answer (below g.job g.cells takes.answer is.each takes.spelled.fits) (changes takes.answer takes.spelled)

  pub still_lean : (gate : ℕ) (s : State) → IsJob g.job → IsJournalAt gate g s → Joins g after bytes → length bytes < 2 ^ 32 → IsLean g.job s.reads
      → (file : List ℕ) → IsWithOrWithout (take gate s.reads) (record_bytes bytes ++ 0 ∷ []) file → IsLean g.job file
  still_lean gate s is_job at joins short lean file either =
      let same : at.answers ≡ lean.answers = journal_same g.job is_job at.answers lean.answers s.reads (closed_journal gate g s at s.reads (is_closed_at gate g s at).closed) lean.journal in
      let few : length at.answers ≤ records_needed (joined g.job.cut at.answers) = subst (λ (answers : List Answer). length answers ≤ records_needed (joined g.job.cut answers)) (sym same) lean.few in
      elim either [
        | inl closed ↦ record { answers = at.answers; journal = closed_journal gate g s at file closed; few = few }
        | inr is_open ↦ record {
          answers = at.answers ++ takes.answer ∷ [];
          journal = open_journal gate g s at takes.answer bytes file takes.spelled short is_open;
          few = omega (arith, few, length-append at.answers (takes.answer ∷ []), ap records_needed at.state, ap records_needed (joins at.answers takes.answer takes.spelled at.state), needs_one);
        }
      ]

module _ (gate : ℕ) (inside : DurableSpec) (new : DiskSpec) (after : GatherSpec) (returned : Absorbed) (bytes entry : List ℕ) where
  module _ (entry_is : entry ≡ record_bytes bytes ++ 0 ∷ []) (kept : IsKept gate inside) (is_open : inside.is_open ≡ true) (takes : Takes inside.gather after bytes returned) (short : length bytes < 2 ^ 32) where
    module _ (joins : Joins inside.gather after bytes) where
      -- a crash leaves a journal with it or without it
      pub append_leaves : (IsHonest inside.disk → LeavesOnly inside.disk new (IsWithOrWithout (take gate inside.disk.now.reads) entry)) → IsHonest inside.disk → LeavesOnly inside.disk new (IsBeforeOrAfter inside.gather bytes)
      append_leaves leaves honest =
          leaves_weaker inside.disk new (IsWithOrWithout (take gate inside.disk.now.reads) entry) (IsBeforeOrAfter inside.gather bytes)
          (λ file either. before_or_after gate inside.gather after inside.disk.now returned bytes (kept.journal is_open honest) takes joins short file
          (subst (λ (e : List ℕ). IsWithOrWithout (take gate inside.disk.now.reads) e file) entry_is either))
          (leaves honest)

    -- the record ends where bytes can be numbered
    pub record_fits : last_gate inside.gather.cells < 2 ^ 62 → gate + 1 + length entry < 2 ^ 64
    record_fits near = omega (arith, kept.near, near, ap length entry_is, length-append (record_bytes bytes) (0 ∷ []), record_long bytes, short)

    module _ (is : IsGather inside.gather) (changes : Changes inside.gather bytes) where
      -- the offset of the gate moves by a record
      pub moves_gate : (n : ℕ) → n ≡ length entry → gate + n ≤ last_gate after.cells
      moves_gate n long =
          omega (arith, kept.near, long, ap length entry_is, length-append (record_bytes bytes) (0 ∷ []), record_long bytes, short, needs_one inside.gather after returned bytes is takes changes)

      pub keeps_gate : gate ≤ last_gate after.cells
      keeps_gate = omega (arith, kept.near, needs_one inside.gather after returned bytes is takes changes)

      -- without a record too many
      pub append_lean : IsJob inside.gather.job → Joins inside.gather after bytes → (IsHonest inside.disk → LeavesOnly inside.disk new (IsWithOrWithout (take gate inside.disk.now.reads) entry)) → LeavesLean new inside
      append_lean is_job joins leaves honest lean =
          leaves_weaker inside.disk new (IsWithOrWithout (take gate inside.disk.now.reads) entry) (IsLean inside.gather.job)
          (λ file either. still_lean inside.gather after returned bytes is takes changes gate inside.disk.now is_job (kept.journal is_open honest) joins short lean file
          (subst (λ (e : List ℕ). IsWithOrWithout (take gate inside.disk.now.reads) e file) entry_is either))
          (leaves honest)

      -- and then the journal of what is gathered now is there
      pub append_keeps : (n : ℕ) → n ≡ length entry → Joins inside.gather after bytes → CountsNothing inside.disk new → new.is_honest ≡ inside.disk.is_honest
          → (IsHonest inside.disk → new.now ≡ record { reads = take gate inside.disk.now.reads ++ 1 ∷ (entry ++ drop (gate + 1 + length entry) inside.disk.now.reads); unsynced = Synced })
          → IsKept (gate + n) (record { disk = new; gather = after; is_open = inside.is_open })
      append_keeps n long joins counts same_honest appended = record {
        near = moves_gate n long;
        room = λ still_open. room_kept inside.disk new counts (kept.room is_open);
        journal = λ still_open honest.
            let was : IsHonest inside.disk = sym same_honest ∙ honest in
            let at = kept.journal is_open was in
            let rest = drop (gate + 1 + length entry) inside.disk.now.reads in
            let is_new = appended was ∙ ap (λ (e : List ℕ). record { reads = take gate inside.disk.now.reads ++ 1 ∷ (e ++ rest); unsynced = Synced }) entry_is in
            let offset : gate + length (record_bytes bytes ++ 0 ∷ []) ≡ gate + n = ap (λ (k : ℕ). gate + k) (sym (long ∙ ap length entry_is)) in
            subst (λ (k : ℕ). IsJournalAt k after new.now) offset
            (appended_at gate inside.gather inside.disk.now at after takes.answer bytes rest new.now takes.job takes.spelled short (joins at.answers takes.answer takes.spelled at.state) is_new);
      }

      -- or the disk has failed
      pub append_breaks : IsKept gate (record { disk = new; gather = after; is_open = false })
      append_breaks = record {
        near = keeps_gate;
        room = λ is_now. absurd (false≢true is_now);
        journal = λ is_now honest. absurd (false≢true is_now);
      }

-- ---- an empty journal

pub empty_kept : (disk new : DiskSpec) (g : GatherSpec) → HasRoom disk → CountsNothing disk new → new.is_honest ≡ disk.is_honest → g.cells ≡ joined g.job.cut []
    → (IsHonest disk → new.now ≡ record { reads = journal_magic ++ 0 ∷ []; unsynced = Synced }) → IsKept 4 (record { disk = new; gather = g; is_open = true })
unfolding journal_magic
empty_kept disk new g room counts same_honest fresh cleared = record {
  near = omega arith;
  room = λ still_open. room_kept disk new counts room;
  journal = λ still_open honest.
      let is = cleared (sym same_honest ∙ honest) in
      record {
        synced = ap (λ (s : State). s.unsynced) is;
        answers = [];
        records = [];
        are_records = refl;
        offset = refl;
        closed = ([], ap (λ (s : State). s.reads) is);
        state = fresh;
      };
}

pub empty_lean : (disk new : DiskSpec) (job : JobSpec) → new.is_honest ≡ disk.is_honest → (IsHonest disk → new.now ≡ record { reads = journal_magic ++ 0 ∷ []; unsynced = Synced }) → IsHonest new → IsLean job new.now.reads
empty_lean disk new job same_honest cleared honest =
    let is = cleared (sym same_honest ∙ honest) in
    record {
      answers = [];
      journal = record { records = []; are_records = refl; closed = ([], ap (λ (s : State). s.reads) is ∙ ap (λ (l : List ℕ). l ++ 0 ∷ []) (sym (append-nil journal_magic))) };
      few = omega arith;
    }
