-- A whole file that is read.
use Rattle.std.specs.Prelude.{◌≡◌, ℕ, ◌+◌, ◌*◌, ◌<◌, ◌≤◌, ◌^◌, List, [], ◌∷◌, ◌++◌, length, take, drop, Result, Ok, Err}
use Rattle.std.proofs.Common.{refl, sym, ap, ◌∙◌, subst, arith, append_assoc}
use Rattle.std.proofs.lemmas.List.{append-nil, length-append, append_cancel_left, nil_from_length, take_at}
use Rattle.disk.specs.Disk.{DiskSpec, State, Synced, IsHonest, IsImage, IsCall, LeavesOnly}
use Rattle.disk.specs.declared.disk.DiskFault.{DiskFault}
use Rattle.disk.proofs.Moments.{Leaves, still, goes_on, runs_on, leaves_weaker}
use Rattle.disk.proofs.Writes.{synced_leaves}
use Rattle.meaning.specs.Said.{Cell}
use Rattle.meaning.specs.Gather.{joined}
use Rattle.wire.specs.declared.fault.WireFault.{WireFault}
use Rattle.wire.specs.Reading.{behind_magic}
use Rattle.wire.proofs.Numbers.{IsBytes}
use Rattle.wire.proofs.Seals.{magic_takes, magic_again}
use Rattle.partial_codec.specs.Job.{JobSpec}
use Rattle.gathering.specs.Gathering.{GatherSpec}
use Rattle.journal.specs.Journal.{journal_magic, max_records, AreRecords, IsJournal, IsOpened}
use Rattle.journal.specs.Durable.{IsJournalAt, last_gate}
use Rattle.journal.specs.Reading.{IsNoJournal, HasRead, IsFileOf, OnlyReads, from_offset}
use Rattle.journal.specs.Fault.{IsNoFile}

pub magic_long : length journal_magic ≡ 4
unfolding journal_magic
magic_long = refl

-- ---- the magic

ok_not_err : {X E : Type 0} (x : X) (e : E) → Ok x ≡ Err e → ⊥
ok_not_err x e same = cc

pub is_front : (front : List ℕ) → length front ≡ 4 → (rest : List ℕ) → IsBytes front → behind_magic journal_magic front ≡ Ok rest → front ≡ journal_magic
is_front front four rest fits read =
    let is : front ≡ journal_magic ++ rest = (magic_takes journal_magic front rest fits read).parts in
    let none : rest ≡ [] = nil_from_length rest (omega (arith, four, ap length is, length-append journal_magic rest, magic_long)) in
    is ∙ ap (λ (l : List ℕ). journal_magic ++ l) none ∙ append-nil journal_magic

pub no_front : (front : List ℕ) (e : WireFault) → behind_magic journal_magic front ≡ Err e → front ≡ journal_magic → ⊥
no_front front e refused same =
    ok_not_err [] e (sym (magic_again journal_magic [] magic_long) ∙ ap (behind_magic journal_magic) (append-nil journal_magic ∙ sym same) ∙ refused)

-- a file with another front
pub other_front : (front tail file : List ℕ) → length front ≡ 4 → file ≡ front ++ tail → (front ≡ journal_magic → ⊥) → (rest : List ℕ) → file ≡ journal_magic ++ rest → ⊥
other_front front tail file four parts other rest is = other (sym (take_at front tail 4 four) ∙ ap (take 4) (sym parts ∙ is) ∙ take_at journal_magic rest 4 magic_long)

-- a file that is too short
pub short_file : (file : List ℕ) → length file < 4 → (rest : List ℕ) → file ≡ journal_magic ++ rest → ⊥
short_file file short rest is = omega (arith, short, ap length is, length-append journal_magic rest, magic_long)

-- ---- the file

pub no_magic_file : (job : JobSpec) (file : List ℕ) → ((rest : List ℕ) → file ≡ journal_magic ++ rest → ⊥) → IsNoFile job file
no_magic_file job file none answers few journal =
    none (journal.records ++ 0 ∷ journal.closed.0) (journal.closed.1 ∙ append_assoc journal_magic journal.records (0 ∷ journal.closed.0))

module _ (file rest : List ℕ) (parts : file ≡ journal_magic ++ rest) where
  pub is_file : (g new : GatherSpec) (gate : ℕ) → new.job ≡ g.job → HasRead g new rest gate → IsFileOf gate new file
  is_file g new gate same read = record {
    answers = read.answers;
    few = read.few;
    records = read.records;
    are_records = subst (λ (job : JobSpec). AreRecords job read.answers read.records) (sym same) read.are_records;
    offset = omega (arith, length-append journal_magic read.records, magic_long, read.offset);
    closed = (read.closed.0, parts ∙ ap (λ (l : List ℕ). journal_magic ++ l) read.closed.1 ∙ sym (append_assoc journal_magic read.records (0 ∷ read.closed.0)));
    state = read.state ∙ ap (λ (job : JobSpec). joined job.cut read.answers) (sym same);
  }

  pub no_file : (job : JobSpec) → IsNoJournal job rest → IsNoFile job file
  no_file job none answers few journal =
      none answers few (record {
        records = journal.records;
        are_records = journal.are_records;
        closed = (
          journal.closed.0,
          append_cancel_left journal_magic rest (journal.records ++ 0 ∷ journal.closed.0)
              (sym parts ∙ journal.closed.1 ∙ append_assoc journal_magic journal.records (0 ∷ journal.closed.0)),
        );
      })

-- the same of a disk that was only read
pub magic_before : (a b : DiskSpec) → OnlyReads a b → IsHonest a → b.now.reads ≡ journal_magic ++ from_offset 4 b → a.now.reads ≡ journal_magic ++ from_offset 4 a
magic_before a b only honest parts = subst (λ (s : State). s.reads ≡ journal_magic ++ drop 4 s.reads) (only.same honest) parts

-- ---- behind the sync

pub file_at : (gate : ℕ) (g : GatherSpec) (s : State) → s.unsynced ≡ Synced → IsFileOf gate g s.reads → IsJournalAt gate g s
file_at gate g s synced file = record {
  synced = synced;
  answers = file.answers;
  records = file.records;
  are_records = file.are_records;
  offset = file.offset;
  closed = file.closed;
  state = file.state;
}

pub opened_file : (gate : ℕ) (g : GatherSpec) (file : List ℕ) → IsFileOf gate g file → IsOpened g file
opened_file gate g file is = record {
  answers = is.answers;
  few = is.few;
  journal = record { records = is.records; are_records = is.are_records; closed = is.closed };
  state = is.state;
}

-- another coordinator that holds the same
module _ (g h : GatherSpec) (job : h.job ≡ g.job) (cells : h.cells ≡ g.cells) where
  pub same_journal : (gate : ℕ) (s : State) → IsJournalAt gate g s → IsJournalAt gate h s
  same_journal gate s at = record {
    synced = at.synced;
    answers = at.answers;
    records = at.records;
    are_records = subst (λ (j : JobSpec). AreRecords j at.answers at.records) (sym job) at.are_records;
    offset = at.offset;
    closed = at.closed;
    state = cells ∙ at.state ∙ ap (λ (j : JobSpec). joined j.cut at.answers) (sym job);
  }

  pub same_opened : (file : List ℕ) → IsOpened g file → IsOpened h file
  same_opened file is = record {
    answers = is.answers;
    few = is.few;
    journal = subst (λ (j : JobSpec). IsJournal j is.answers file) (sym job) is.journal;
    state = cells ∙ is.state ∙ ap (λ (j : JobSpec). joined j.cut is.answers) (sym job);
  }

-- a sync, and reading behind it: a crash leaves what it could leave before
pub synced_only : {X : Type 0} (old mid new : DiskSpec) (result : Result X DiskFault) → IsHonest old → IsCall old mid result → mid.now ≡ record { reads = old.now.reads; unsynced = Synced } → IsImage old.now old.now.reads
    → OnlyReads mid new → LeavesOnly old new (IsImage old.now)
synced_only old mid new result honest call is stays only =
    let P : List ℕ → Type 0 = IsImage old.now in
    let here : P mid.now.reads = subst P (sym (ap (λ (s : State). s.reads) is)) stays in
    let mid_leaves : Leaves P mid.now = synced_leaves mid.now P (ap (λ (s : State). s.unsynced) is) here in
    runs_on old mid new P
    (goes_on old old mid P (still old P (λ image left. left)) (call.time honest) mid_leaves)
    (leaves_weaker mid new (IsImage mid.now) P mid_leaves (only.any_moment (call.honest ∙ honest)))

pub near_enough : (gate : ℕ) (cells : List Cell) → gate ≤ 4 + max_records * 2 ^ 33 → gate ≤ last_gate cells
near_enough gate cells near = omega (arith, near)
