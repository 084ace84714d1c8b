-- One record more.
use Rattle.std.specs.Prelude.{◌≡◌, ℕ, ◌+◌, ◌<◌, ◌^◌, List, [], ◌∷◌, ◌++◌, length, take}
use Rattle.std.proofs.Common.{refl, sym, ap, ◌∙◌, subst, arith, append_assoc}
use Rattle.std.proofs.lemmas.List.{append-nil, length-append, take_at}
use Rattle.meaning.specs.Said.{Answer}
use Rattle.meaning.specs.Gather.{joined}
use Rattle.partial_codec.specs.Job.{JobSpec}
use Rattle.partial_codec.specs.Answer.{Spells}
use Rattle.gathering.specs.Gathering.{GatherSpec}
use Rattle.disk.specs.Disk.{State, Synced}
use Rattle.journal.specs.Journal.{journal_magic, record_bytes, IsRecord, AreRecords, IsClosedBehind, IsOpenBehind, IsClosedAt, IsJournal, IsJournalOf}
use Rattle.journal.specs.Durable.{IsJournalAt}

pub records_push : (job : JobSpec) (answers : List Answer) (bytes : List ℕ) (a : Answer) (last : List ℕ) → AreRecords job answers bytes → IsRecord job a last → AreRecords job (answers ++ a ∷ []) (bytes ++ last)
records_push job [] bytes a last are is = (last, [], is, refl, ap (λ (b : List ℕ). b ++ last) are ∙ sym (append-nil last))
records_push job (b ∷ answers) bytes a last are is = (
  are.0,
  are.1 ++ last,
  are.2,
  records_push job answers are.1 a last are.3 is,
  ap (λ (b : List ℕ). b ++ last) are.4 ∙ append_assoc are.0 are.1 last,
)

-- a record behind a front of the magic and records, and its closed gate
pub pushed_parts : (front records spelling behind : List ℕ) (gate : ℕ)
    → front ++ records ++ gate ∷ (record_bytes spelling ++ 0 ∷ [] ++ behind) ≡ front ++ (records ++ gate ∷ record_bytes spelling) ++ 0 ∷ behind
pushed_parts front records spelling behind gate =
    ap (λ (l : List ℕ). front ++ records ++ gate ∷ l) (append_assoc (record_bytes spelling) (0 ∷ []) behind)
    ∙ sym (append_assoc (front ++ records) (gate ∷ record_bytes spelling) (0 ∷ behind))
    ∙ ap (λ (l : List ℕ). l ++ 0 ∷ behind) (append_assoc front records (gate ∷ record_bytes spelling))

module _ (gate : ℕ) (g : GatherSpec) (s : State) (at : IsJournalAt gate g s) where
  front : take gate s.reads ≡ journal_magic ++ at.records
  front = ap (take gate) at.closed.1 ∙ take_at (journal_magic ++ at.records) (0 ∷ at.closed.0) gate at.offset

  pub is_closed_at : IsClosedAt gate s
  is_closed_at = record { synced = at.synced; closed = (at.closed.0, at.closed.1 ∙ ap (λ (l : List ℕ). l ++ 0 ∷ at.closed.0) (sym front)) }

  -- a file with the gate closed is a journal of the same answers
  pub closed_journal : (file : List ℕ) → IsClosedBehind (take gate s.reads) file → IsJournal g.job at.answers file
  closed_journal file closed = record {
    records = at.records;
    are_records = at.are_records;
    closed = (closed.0, closed.1 ∙ ap (λ (l : List ℕ). l ++ 0 ∷ closed.0) front);
  }

  pub closed_is_journal : (file : List ℕ) → IsClosedBehind (take gate s.reads) file → IsJournalOf g file
  closed_is_journal file closed = record { answers = at.answers; journal = closed_journal file closed; state = at.state }

  -- one with an open gate and an answer's record behind it is a journal with that answer
  pub open_journal : (a : Answer) (spelling file : List ℕ) → Spells g.job spelling a → length spelling < 2 ^ 32 → IsOpenBehind (take gate s.reads) (record_bytes spelling ++ 0 ∷ []) file → IsJournal g.job (at.answers ++ a ∷ []) file
  open_journal a spelling file spells short is_open = record {
    records = at.records ++ is_open.0 ∷ record_bytes spelling;
    are_records = records_push g.job at.answers at.records a (is_open.0 ∷ record_bytes spelling) at.are_records (record {
      gate = is_open.0;
      is_open = is_open.1;
      spelling = spelling;
      spells = spells;
      short = short;
      parts = refl;
    });
    closed = (
      is_open.2,
      is_open.3 ∙ ap (λ (l : List ℕ). l ++ is_open.0 ∷ (record_bytes spelling ++ 0 ∷ [] ++ is_open.2)) front
          ∙ pushed_parts journal_magic at.records spelling is_open.2 is_open.0,
    );
  }

  pub open_is_journal : (after : GatherSpec) (a : Answer) (spelling file : List ℕ) → after.job ≡ g.job → Spells g.job spelling a → length spelling < 2 ^ 32
      → after.cells ≡ joined g.job.cut (at.answers ++ a ∷ []) → IsOpenBehind (take gate s.reads) (record_bytes spelling ++ 0 ∷ []) file → IsJournalOf after file
  open_is_journal after a spelling file same spells short state is_open = record {
    answers = at.answers ++ a ∷ [];
    journal = subst (λ (job : JobSpec). IsJournal job (at.answers ++ a ∷ []) file) (sym same) (open_journal a spelling file spells short is_open);
    state = state ∙ ap (λ (job : JobSpec). joined job.cut (at.answers ++ a ∷ [])) (sym same);
  }

-- the offset of the closed gate behind a record
pushed_offset : (front records spelling : List ℕ) (gate : ℕ) (byte : ℕ) → length (front ++ records) ≡ gate
    → length (front ++ (records ++ byte ∷ record_bytes spelling)) ≡ gate + length (record_bytes spelling ++ 0 ∷ [])
pushed_offset front records spelling gate byte offset =
    omega (arith, offset, ap length (append_assoc front records (byte ∷ record_bytes spelling)), length-append (front ++ records) (byte ∷ record_bytes spelling), length-append (record_bytes spelling) (0 ∷ []))

-- behind an append the closed gate stands behind the record
pub appended_at : (gate : ℕ) (g : GatherSpec) (s : State) (at : IsJournalAt gate g s) (after : GatherSpec) (a : Answer) (spelling rest : List ℕ) (t : State)
    → after.job ≡ g.job → Spells g.job spelling a → length spelling < 2 ^ 32 → after.cells ≡ joined g.job.cut (at.answers ++ a ∷ [])
    → t ≡ record { reads = take gate s.reads ++ 1 ∷ (record_bytes spelling ++ 0 ∷ [] ++ rest); unsynced = Synced }
    → IsJournalAt (gate + length (record_bytes spelling ++ 0 ∷ [])) after t
appended_at gate g s at after a spelling rest t same spells short state is = record {
  synced = ap (λ (t : State). t.unsynced) is;
  answers = at.answers ++ a ∷ [];
  records = at.records ++ 1 ∷ record_bytes spelling;
  are_records = subst (λ (job : JobSpec). AreRecords job (at.answers ++ a ∷ []) (at.records ++ 1 ∷ record_bytes spelling)) (sym same)
      (records_push g.job at.answers at.records a (1 ∷ record_bytes spelling) at.are_records (record {
        gate = 1;
        is_open = λ e. absurd (omega (arith, e));
        spelling = spelling;
        spells = spells;
        short = short;
        parts = refl;
      }));
  offset = pushed_offset journal_magic at.records spelling gate 1 at.offset;
  closed = (
    rest,
    ap (λ (t : State). t.reads) is
        ∙ ap (λ (l : List ℕ). l ++ 1 ∷ (record_bytes spelling ++ 0 ∷ [] ++ rest)) (front gate g s at)
        ∙ pushed_parts journal_magic at.records spelling rest 1,
  );
  state = state ∙ ap (λ (job : JobSpec). joined job.cut (at.answers ++ a ∷ [])) (sym same);
}
