-- Records that are read one after the other.
use Rattle.std.specs.Prelude.{◌≡◌, ℕ, ◌+◌, ◌*◌, ◌<◌, ◌≤◌, ◌^◌, List, [], ◌∷◌, ◌++◌, length, drop, get_or, Some, None}
use Rattle.std.proofs.Common.{refl, sym, ap, ◌∙◌, subst, arith, append_assoc}
use Rattle.std.proofs.lemmas.List.{length-append, length-drop}
use Rattle.disk.specs.Disk.{DiskSpec, IsHonest}
use Rattle.meaning.specs.Said.{Answer}
use Rattle.meaning.specs.Gather.{joined}
use Rattle.wire.proofs.Numbers.{ok_is}
use Rattle.partial_codec.specs.Job.{JobSpec, IsJob}
use Rattle.partial_codec.specs.Answer.{judged}
use Rattle.partial_codec.proofs.Answers.{spelled_reads}
use Rattle.gathering.specs.Gathering.{GatherSpec}
use Rattle.gathering.proofs.Held.{one_more, below_cut}
use Rattle.journal.specs.Journal.{record_bytes, max_records, IsRecord, AreRecords, IsClosedBehind}
use Rattle.journal.specs.Reading.{AreClosedRecords, CountsNothing, HasTaken, IsNext, IsNoJournal, HasRead, OnlyReads, from_offset}
use Rattle.journal.specs.Fault.{RefusesReading}
use Rattle.journal.specs.declared.fault.JournalFault.{JournalFault}
use Rattle.journal.proofs.OnlyReading.{only_then, counts_behind, same_from, refuses_later}
use Rattle.journal.proofs.Records.{records_push}
use Rattle.journal.proofs.OneJournal.{first_parts, spelling_same}

-- what closed records begin with
pub record BeginsWith (job : JobSpec) (a : Answer) (all : List Answer) (rest : List ℕ) : Type 0 where
  pub others : List Answer
  pub parts : all ≡ a ∷ others
  pub closed : AreClosedRecords job others rest

-- a record's bytes and those behind it
record_parts : (job : JobSpec) (a : Answer) (first rest bytes : List ℕ) (is : IsRecord job a first) → bytes ≡ first ++ rest → bytes ≡ is.gate ∷ (record_bytes is.spelling ++ rest)
record_parts job a first rest bytes is parts = parts ∙ ap (λ (l : List ℕ). l ++ rest) is.parts

-- no closed gate stands where a record does
not_closed : (job : JobSpec) (a : Answer) (first rest bytes : List ℕ) → IsRecord job a first → bytes ≡ first ++ rest → IsClosedBehind [] bytes → ⊥
not_closed job a first rest bytes is parts closed =
    is.is_open (ap (λ (l : List ℕ). get_or l 0 0) (sym (record_parts job a first rest bytes is parts) ∙ closed.1))

-- closed records that begin with a record's bytes are those of its answer and others
begins_with : (job : JobSpec) → IsJob job → (a : Answer) (first rest bytes : List ℕ) → IsRecord job a first → bytes ≡ first ++ rest → (all : List Answer) → AreClosedRecords job all bytes → BeginsWith job a all rest
begins_with job is_job a first rest bytes is parts [] closed =
    absurd (not_closed job a first rest bytes is parts (closed.closed.0, closed.closed.1 ∙ ap (λ (l : List ℕ). l ++ 0 ∷ closed.closed.0) closed.are_records))
begins_with job is_job a first rest bytes is parts (b ∷ others) closed =
    let are = closed.are_records in
    let both = ap (drop 1) (sym (record_parts job a first rest bytes is parts) ∙ closed.closed.1 ∙ first_parts job b others closed.records (0 ∷ closed.closed.0) are) in
    let same = spelling_same is.spelling are.2.spelling rest (are.1 ++ 0 ∷ closed.closed.0) is.short are.2.short both in
    let one : a ≡ b = ok_is a b (sym (spelled_reads job is.spelling a is_job is.spells) ∙ ap (judged job) same.0 ∙ spelled_reads job are.2.spelling b is_job are.2.spells) in
    record {
      others = others;
      parts = λ i. sym one i ∷ others;
      closed = record { records = are.1; are_records = are.3; closed = (closed.closed.0, same.1) };
    }

-- ---- the records so far

-- so many answers were taken from the front, and the rest is still to be read
pub record HasReadTo (old now : GatherSpec) (bytes rest : List ℕ) (count at : ℕ) : Type 0 where
  pub answers : List Answer
  pub counted : length answers ≡ count
  pub records : List ℕ
  pub are_records : AreRecords old.job answers records
  pub parts : bytes ≡ records ++ rest
  pub offset : 4 + length records ≡ at
  pub state : now.cells ≡ joined old.job.cut answers
  -- what all the bytes may be records of begins with these
  pub more : (all : List Answer) → AreClosedRecords old.job all bytes → (others : List Answer) × (all ≡ answers ++ others) × AreClosedRecords old.job others rest

pub read_nothing : (g : GatherSpec) (bytes : List ℕ) → g.cells ≡ joined g.job.cut [] → HasReadTo g g bytes bytes 0 4
read_nothing g bytes fresh = record {
  answers = [];
  counted = refl;
  records = [];
  are_records = refl;
  parts = refl;
  offset = refl;
  state = fresh;
  more = λ all closed. (all, refl, closed);
}

module _ (old now : GatherSpec) (bytes rest : List ℕ) (count at : ℕ) (so_far : HasReadTo old now bytes rest count at) (same : now.job ≡ old.job) where
  -- one record more
  pub reads_on : (new : GatherSpec) (behind : List ℕ) (next : ℕ) → IsJob old.job → HasTaken now new rest (Some behind) → at + length rest ≡ next + length behind → HasReadTo old new bytes behind (count + 1) next
  reads_on new behind next is_job taken long =
      let a = taken.0 in
      let is : IsRecord old.job a taken.1 = subst (λ (job : JobSpec). IsRecord job a taken.1) same taken.2 in
      record {
        answers = so_far.answers ++ a ∷ [];
        counted = omega (arith, length-append so_far.answers (a ∷ []), so_far.counted);
        records = so_far.records ++ taken.1;
        are_records = records_push old.job so_far.answers so_far.records a taken.1 so_far.are_records is;
        parts = so_far.parts ∙ ap (λ (l : List ℕ). so_far.records ++ l) taken.3 ∙ sym (append_assoc so_far.records taken.1 behind);
        offset = omega (arith, so_far.offset, length-append so_far.records taken.1, long, ap length taken.3, length-append taken.1 behind);
        state = taken.4 ∙ one_more old.job.cut so_far.answers a now.cells (below_cut old.job a is.spells.fits) so_far.state;
        more = λ all closed.
            let left = so_far.more all closed in
            let first = begins_with old.job is_job a taken.1 behind rest is taken.3 left.0 left.2 in (
              first.others,
              left.1 ∙ ap (λ (l : List Answer). so_far.answers ++ l) first.parts ∙ sym (append_assoc so_far.answers (a ∷ []) first.others),
              first.closed,
            );
      }

  -- the closed gate
  pub reads_all : (new : GatherSpec) → count ≤ max_records → HasTaken now new rest None → HasRead old new bytes at
  reads_all new few taken = record {
    answers = so_far.answers;
    few = subst (λ (n : ℕ). n ≤ max_records) (sym so_far.counted) few;
    records = so_far.records;
    are_records = so_far.are_records;
    offset = so_far.offset;
    closed = (taken.1.0, so_far.parts ∙ ap (λ (l : List ℕ). so_far.records ++ l) taken.1.1);
    state = taken.0 ∙ so_far.state;
  }

  -- what is no journal from here on is none from the front on
  pub none_from_front : IsNoJournal now.job rest → IsNoJournal old.job bytes
  none_from_front none all few closed =
      let left = so_far.more all closed in
      none left.0 (omega (arith, few, ap length left.1, length-append so_far.answers left.0)) (subst (λ (job : JobSpec). AreClosedRecords job left.0 rest) (sym same) left.2)

  -- more records than are read
  pub too_many : max_records < count → IsNoJournal old.job bytes
  too_many many all few closed =
      let left = so_far.more all closed in
      absurd (omega (arith, many, few, so_far.counted, ap length left.1, length-append so_far.answers left.0))

-- ---- the loop

-- what was read of the disk so far, and where the next gate stands
pub record IsReadTo (first now : DiskSpec) (old g : GatherSpec) (end count at : ℕ) : Type 0 where
  pub only : OnlyReads first now
  pub counts : CountsNothing first now
  pub job : g.job ≡ old.job
  pub within : at ≤ end
  pub near : at ≤ 4 + count * 2 ^ 33
  pub so_far : IsHonest first → HasReadTo old g (from_offset 4 first) (from_offset at first) count at

module _ (first now : DiskSpec) (old g : GatherSpec) (end count at : ℕ) (is : IsReadTo first now old g end count at) (is_job : IsJob old.job) (whole : IsHonest first → end ≡ length first.now.reads) where
  -- the record that stands next
  pub reads_next : (new : DiskSpec) (after : GatherSpec) (next : ℕ) → OnlyReads now new → CountsNothing now new → after.job ≡ g.job → IsNext at end (Some next)
      → (IsHonest now → HasTaken g after (from_offset at now) (Some (from_offset next now))) → IsReadTo first new old after end (count + 1) next
  reads_next new after next only counts job is_next taken = record {
    only = only_then first now new is.only only;
    counts = counts_behind first now new is.counts counts;
    job = job ∙ is.job;
    within = is_next.0;
    near = omega (arith, is_next.1, is.near);
    so_far = λ honest.
        let was : HasTaken g after (from_offset at now) (Some (from_offset next now)) = taken (is.only.honest ∙ honest) in
        let here : HasTaken g after (from_offset at first) (Some (from_offset next first)) =
        subst (λ (l : List ℕ). HasTaken g after l (Some (from_offset next first))) (same_from at first now is.only honest)
        (subst (λ (l : List ℕ). HasTaken g after (from_offset at now) (Some l)) (same_from next first now is.only honest) was) in
        let long : at + length (from_offset at first) ≡ next + length (from_offset next first) =
        omega (arith, length-drop at first.now.reads, length-drop next first.now.reads, is.within, is_next.0, whole honest) in
        reads_on old g (from_offset 4 first) (from_offset at first) count at (is.so_far honest) is.job after (from_offset next first) next is_job here long;
  }

  -- the closed gate
  pub reads_end : (after : GatherSpec) → count ≤ max_records → (IsHonest now → HasTaken g after (from_offset at now) None) → IsHonest first → HasRead old after (from_offset 4 first) at
  reads_end after few taken honest =
      reads_all old g (from_offset 4 first) (from_offset at first) count at (is.so_far honest) is.job after few
      (subst (λ (l : List ℕ). HasTaken g after l None) (same_from at first now is.only honest) (taken (is.only.honest ∙ honest)))

  -- what is refused here
  pub refuses_next : (new : DiskSpec) (e : JournalFault) → RefusesReading now new (IsNoJournal g.job (from_offset at now)) e → RefusesReading first new (IsNoJournal old.job (from_offset 4 first)) e
  refuses_next new e refused =
      refuses_later first now new (IsNoJournal g.job (from_offset at now)) (IsNoJournal old.job (from_offset 4 first)) e is.only.honest is.counts
      (λ honest none. none_from_front old g (from_offset 4 first) (from_offset at first) count at (is.so_far honest) is.job (subst (IsNoJournal g.job) (same_from at first now is.only honest) none))
      refused

  pub refuses_more : max_records < count → IsHonest first → IsNoJournal old.job (from_offset 4 first)
  refuses_more many honest = too_many old g (from_offset 4 first) (from_offset at first) count at (is.so_far honest) is.job many
