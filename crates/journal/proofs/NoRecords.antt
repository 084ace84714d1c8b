-- Bytes that are no records with a closed gate behind them.
use Rattle.std.specs.Prelude.{◌≡◌, ◌≢◌, ◌⊎◌, ℕ, ◌+◌, ◌<◌, ◌^◌, List, [], ◌∷◌, ◌++◌, length, drop, get_or, Some, None}
use Rattle.std.proofs.Common.{inl, inr, sym, ap, ◌∙◌, arith, append_assoc}
use Rattle.std.proofs.lemmas.List.{length-append}
use Rattle.byteorder.specs.Numbers.{length-bytes_low_first}
use Rattle.meaning.specs.Said.{Answer}
use Rattle.wire.specs.Bytes.{number_bytes}
use Rattle.wire.specs.Reading.{number_at}
use Rattle.wire.proofs.Numbers.{ok_is, number_again}
use Rattle.partial_codec.specs.Job.{JobSpec, IsJob}
use Rattle.answer_fields.specs.declared.fault.DecodeFault.{DecodeFault}
use Rattle.partial_codec.specs.Answer.{Spells, fault_in, obstacle}
use Rattle.partial_codec.proofs.Answers.{spelled_reads}
use Rattle.journal.specs.Journal.{record_bytes, IsClosedBehind}
use Rattle.journal.specs.Reading.{AreClosedRecords, HasNoSpelling, IsNoJournal}
use Rattle.journal.proofs.OneJournal.{first_parts, spelling_same}

-- an open gate, and an answer's record behind it
pub record BeginsOpen (job : JobSpec) (bytes : List ℕ) : Type 0 where
  pub gate : ℕ
  pub is_open : gate ≢ 0
  pub answer : Answer
  pub spelling : List ℕ
  pub spells : Spells job spelling answer
  pub short : length spelling < 2 ^ 32
  pub behind : List ℕ
  pub parts : bytes ≡ gate ∷ (record_bytes spelling ++ behind)

pub closed_cases : (job : JobSpec) (all : List Answer) (bytes : List ℕ) → AreClosedRecords job all bytes → IsClosedBehind [] bytes ⊎ BeginsOpen job bytes
closed_cases job [] bytes closed = inl (closed.closed.0, closed.closed.1 ∙ ap (λ (l : List ℕ). l ++ 0 ∷ closed.closed.0) closed.are_records)
closed_cases job (b ∷ others) bytes closed =
    let are = closed.are_records in
    inr (record {
      gate = are.2.gate;
      is_open = are.2.is_open;
      answer = b;
      spelling = are.2.spelling;
      spells = are.2.spells;
      short = are.2.short;
      behind = are.1 ++ 0 ∷ closed.closed.0;
      parts = closed.closed.1 ∙ first_parts job b others closed.records (0 ∷ closed.closed.0) are;
    })

-- an open gate is not a closed one
open_not_closed : (gate : ℕ) (rest bytes : List ℕ) → gate ≢ 0 → bytes ≡ gate ∷ rest → IsClosedBehind [] bytes → ⊥
open_not_closed gate rest bytes is_open parts closed = is_open (ap (λ (l : List ℕ). get_or l 0 0) (sym parts ∙ closed.1))

-- no gate
pub no_gate : (job : JobSpec) (bytes : List ℕ) → bytes ≡ [] → IsNoJournal job bytes
no_gate job bytes none all few closed = elim (closed_cases job all bytes closed) [
  | inl shut ↦ absurd (omega (arith, ap length none, ap length shut.1))
  | inr first ↦ absurd (omega (arith, ap length none, ap length first.parts))
]

-- an open gate without a record
pub no_spelling : (job : JobSpec) (gate : ℕ) (rest bytes : List ℕ) → gate ≢ 0 → bytes ≡ gate ∷ rest → HasNoSpelling rest → IsNoJournal job bytes
no_spelling job gate rest bytes is_open parts none all few closed = elim (closed_cases job all bytes closed) [
  | inl shut ↦ open_not_closed gate rest bytes is_open parts shut
  | inr first ↦ none first.spelling first.behind first.short (ap (drop 1) (sym parts ∙ first.parts))
]

some_not_none : {X : Type 0} (x : X) → Some x ≡ None → ⊥
some_not_none x e = cc

-- a record whose bytes spell no answer for the job
pub no_answer : (job : JobSpec) → IsJob job → (gate : ℕ) (spelling behind bytes : List ℕ) (e : DecodeFault) → gate ≢ 0 → length spelling < 2 ^ 32 → bytes ≡ gate ∷ (record_bytes spelling ++ behind)
    → obstacle job spelling ≡ Some e → IsNoJournal job bytes
no_answer job is_job gate spelling behind bytes e is_open short parts refused all few closed = elim (closed_cases job all bytes closed) [
  | inl shut ↦ open_not_closed gate (record_bytes spelling ++ behind) bytes is_open parts shut
  | inr first ↦
      let same = spelling_same spelling first.spelling behind first.behind short first.short (ap (drop 1) (sym parts ∙ first.parts)) in
      let spelled : obstacle job first.spelling ≡ None = ap fault_in (spelled_reads job first.spelling first.answer is_job first.spells) in
      some_not_none e (sym refused ∙ ap (obstacle job) same.0 ∙ spelled)
]

-- ---- what is no record

pub record_long : (spelling : List ℕ) → length (record_bytes spelling) ≡ 4 + length spelling
unfolding record_bytes number_bytes
record_long spelling = omega (arith, length-append (number_bytes 4 (length spelling)) spelling, length-bytes_low_first 0 4 (length spelling))

pub no_length : (rest : List ℕ) → length rest < 4 → HasNoSpelling rest
no_length rest few spelling behind short is = absurd (omega (arith, few, ap length is, length-append (record_bytes spelling) behind, record_long spelling))

pub no_bytes : (n : ℕ) (rest tail : List ℕ) → n < 2 ^ 32 → rest ≡ number_bytes 4 n ++ tail → length tail < n → HasNoSpelling rest
unfolding record_bytes
no_bytes n rest tail short parts few spelling behind also_short is =
    let left : number_bytes 4 n ++ tail ≡ number_bytes 4 (length spelling) ++ (spelling ++ behind) = sym parts ∙ is ∙ append_assoc (number_bytes 4 (length spelling)) spelling behind in
    let same : (n, tail) ≡ (length spelling, spelling ++ behind) =
    ok_is (n, tail) (length spelling, spelling ++ behind) (sym (number_again 4 n tail short) ∙ ap (number_at 4) left ∙ number_again 4 (length spelling) (spelling ++ behind) also_short) in
    absurd (omega (arith, few, ap (λ (p : ℕ × List ℕ). p.0) same, ap (λ (p : ℕ × List ℕ). length p.1) same, length-append spelling behind))
