-- The record that stands next.
use Rattle.std.specs.Prelude.{◌≡◌, ◌≢◌, ℕ, ◌+◌, ◌<◌, ◌^◌, List, ◌∷◌, ◌++◌, length, Some}
use Rattle.std.proofs.Common.{refl, sym, ap, ◌∙◌, subst, arith, append_assoc}
use Rattle.disk.specs.Disk.{DiskSpec, IsHonest}
use Rattle.wire.specs.Bytes.{number_bytes}
use Rattle.partial_codec.specs.Job.{JobSpec, IsJob}
use Rattle.gathering.specs.Gathering.{GatherSpec}
use Rattle.journal.specs.Journal.{record_bytes}
use Rattle.journal.specs.Reading.{HasBytes, HasNoSpelling, HasSpelling, HasTaken, IsNext, IsNoJournal, OnlyReads, TakesSpelling, from_offset}
use Rattle.journal.specs.Fault.{RefusesReading, RefusesSpelling}
use Rattle.journal.specs.declared.fault.JournalFault.{JournalFault}
use Rattle.journal.specs.declared.fault.JournalFault.TheVariants as fault
use Rattle.journal.proofs.OnlyReading.{same_from}
use Rattle.journal.proofs.NoRecords.{no_answer, no_bytes, no_spelling}

-- an answer's bytes behind their length
module _ (a b : DiskSpec) (at n : ℕ) (only : OnlyReads a b) (short : n < 2 ^ 32) (number : IsHonest a → from_offset at a ≡ number_bytes 4 n ++ from_offset (at + 4) a) where
  pub has_spelling : (end : ℕ) (bytes : List ℕ) → HasBytes (at + 4) n end b bytes → HasSpelling at end a bytes
  unfolding record_bytes
  has_spelling end bytes has = record {
    short = omega (arith, short, has.long);
    within = omega (arith, has.within, has.long);
    read = λ honest.
        let behind = from_offset (at + 4 + length bytes) a in
        let next : from_offset (at + 4) a ≡ bytes ++ behind =
        sym (same_from (at + 4) a b only honest)
        ∙ has.read (only.honest ∙ honest)
        ∙ ap (λ (l : List ℕ). bytes ++ l) (same_from (at + 4 + n) a b only honest)
        ∙ ap (λ (k : ℕ). bytes ++ from_offset (at + 4 + k) a) (sym has.long) in
        number honest
        ∙ ap (λ (l : List ℕ). number_bytes 4 n ++ l) next
        ∙ ap (λ (k : ℕ). number_bytes 4 k ++ (bytes ++ behind)) (sym has.long)
        ∙ sym (append_assoc (number_bytes 4 (length bytes)) bytes behind);
  }

  pub has_none : IsHonest a → length (from_offset (at + 4) b) < n → HasNoSpelling (from_offset at a)
  has_none honest few =
      no_bytes n (from_offset at a) (from_offset (at + 4) a) short (number honest) (subst (λ (l : List ℕ). length l < n) (same_from (at + 4) a b only honest) few)

-- the record behind an open gate
module _ (a b : DiskSpec) (at gate : ℕ) (only : OnlyReads a b) (is_open : gate ≢ 0) (byte : IsHonest a → from_offset at a ≡ gate ∷ from_offset (at + 1) a) where
  pub none_behind_gate : (job : JobSpec) → IsHonest a → HasNoSpelling (from_offset (at + 1) b) → IsNoJournal job (from_offset at a)
  none_behind_gate job honest none =
      no_spelling job gate (from_offset (at + 1) a) (from_offset at a) is_open (byte honest) (subst HasNoSpelling (same_from (at + 1) a b only honest) none)

  module _ (end : ℕ) (spelling : List ℕ) (has : HasSpelling (at + 1) end b spelling) where
    pub behind_record : IsHonest a → from_offset at a ≡ gate ∷ (record_bytes spelling ++ from_offset (at + 5 + length spelling) a)
    behind_record honest =
        let same : at + 1 + 4 + length spelling ≡ at + 5 + length spelling = omega arith in
        byte honest
        ∙ ap (λ (l : List ℕ). gate ∷ l)
        (sym (same_from (at + 1) a b only honest)
        ∙ has.read (only.honest ∙ honest)
        ∙ ap (λ (l : List ℕ). record_bytes spelling ++ l) (same_from (at + 1 + 4 + length spelling) a b only honest)
        ∙ ap (λ (k : ℕ). record_bytes spelling ++ from_offset k a) same)

    pub record_taken : (old new : GatherSpec) → TakesSpelling old new spelling → IsHonest a → HasTaken old new (from_offset at a) (Some (from_offset (at + 5 + length spelling) a))
    record_taken old new takes honest = (
      takes.answer,
      gate ∷ record_bytes spelling,
      record { gate = gate; is_open = is_open; spelling = spelling; spells = takes.spells; short = has.short; parts = refl },
      behind_record honest,
      takes.cells,
    )

    pub is_next : IsNext at end (Some (at + 5 + length spelling))
    is_next = (omega (arith, has.within), omega (arith, has.short))

    pub record_refused : (job : JobSpec) (c : DiskSpec) (e : JournalFault) → IsJob job → RefusesSpelling job spelling e → RefusesReading a c (IsNoJournal job (from_offset at a)) e
    record_refused job c fault.Memory is_job refused = tt
    record_refused job c (fault.Decode e) is_job refused = refused
    record_refused job c fault.Device is_job refused = absurd refused
    record_refused job c fault.Full is_job refused = absurd refused
    record_refused job c fault.NotAJournal is_job refused = λ honest.
        no_answer job is_job gate spelling (from_offset (at + 5 + length spelling) a) (from_offset at a) refused.0 is_open has.short (behind_record honest) refused.1
    record_refused job c fault.OpenAgain is_job refused = refused
    record_refused job c fault.TooLong is_job refused = refused
