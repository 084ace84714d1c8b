-- A file is a journal of one list of answers at most.
use Rattle.std.specs.Prelude.{◌≡◌, ℕ, ◌<◌, ◌^◌, List, [], ◌∷◌, ◌++◌, length, drop, get_or}
use Rattle.std.proofs.Common.{refl, sym, ap, ◌∙◌, subst, append_assoc}
use Rattle.std.proofs.lemmas.List.{append_cancel_left}
use Rattle.meaning.specs.Said.{Answer}
use Rattle.meaning.specs.Gather.{joined}
use Rattle.wire.specs.Bytes.{number_bytes}
use Rattle.wire.specs.Reading.{number_at, bytes_at}
use Rattle.wire.proofs.Numbers.{ok_is, number_again, bytes_again}
use Rattle.partial_codec.specs.Job.{JobSpec, IsJob}
use Rattle.partial_codec.specs.Answer.{judged}
use Rattle.partial_codec.proofs.Answers.{spelled_reads}
use Rattle.gathering.specs.Gathering.{GatherSpec}
use Rattle.journal.specs.Journal.{journal_magic, record_bytes, AreRecords, IsJournal, IsJournalOf}

-- the bytes of two answers that stand behind a gate in one way
pub spelling_same : (sp sq x y : List ℕ) → length sp < 2 ^ 32 → length sq < 2 ^ 32 → record_bytes sp ++ x ≡ record_bytes sq ++ y → (sp ≡ sq) × (x ≡ y)
unfolding record_bytes
spelling_same sp sq x y short also_short same =
    let left : number_bytes 4 (length sp) ++ (sp ++ x) ≡ number_bytes 4 (length sq) ++ (sq ++ y) =
    sym (append_assoc (number_bytes 4 (length sp)) sp x) ∙ same ∙ append_assoc (number_bytes 4 (length sq)) sq y in
    let numbers : (length sp, sp ++ x) ≡ (length sq, sq ++ y) =
    ok_is (length sp, sp ++ x) (length sq, sq ++ y) (sym (number_again 4 (length sp) (sp ++ x) short) ∙ ap (number_at 4) left ∙ number_again 4 (length sq) (sq ++ y) also_short) in
    let bytes : (sp, x) ≡ (sq, y) =
    ok_is (sp, x) (sq, y) (sym (bytes_again (length sq) sp x (ap (λ (p : ℕ × List ℕ). p.0) numbers)) ∙ ap (λ (p : ℕ × List ℕ). bytes_at (length sq) p.1) numbers ∙ bytes_again (length sq) sq y refl) in
    (ap (λ (p : List ℕ × List ℕ). p.0) bytes, ap (λ (p : List ℕ × List ℕ). p.1) bytes)

-- the first record, and what stands behind it
pub first_parts : (job : JobSpec) (a : Answer) (answers : List Answer) (bytes rest : List ℕ) (are : AreRecords job (a ∷ answers) bytes) → bytes ++ rest ≡ are.2.gate ∷ (record_bytes are.2.spelling ++ (are.1 ++ rest))
first_parts job a answers bytes rest are =
    ap (λ (l : List ℕ). l ++ rest) are.4 ∙ append_assoc are.0 are.1 rest ∙ ap (λ (l : List ℕ). l ++ (are.1 ++ rest)) are.2.parts

module _ (job : JobSpec) (is : IsJob job) where
  -- records with open gates up to the first that is closed
  pub records_same : (answers others : List Answer) (x y u v : List ℕ) → AreRecords job answers x → AreRecords job others y → x ++ 0 ∷ u ≡ y ++ 0 ∷ v → answers ≡ others
  records_same [] [] x y u v first second same = refl
  records_same [] (b ∷ others) x y u v first second same =
      let gates : 0 ≡ second.2.gate = ap (λ (l : List ℕ). get_or l 0 0) (ap (λ (l : List ℕ). l ++ 0 ∷ u) (sym first) ∙ same ∙ first_parts job b others y (0 ∷ v) second) in
      absurd (second.2.is_open (sym gates))
  records_same (a ∷ answers) [] x y u v first second same =
      let gates : 0 ≡ first.2.gate = ap (λ (l : List ℕ). get_or l 0 0) (ap (λ (l : List ℕ). l ++ 0 ∷ v) (sym second) ∙ sym same ∙ first_parts job a answers x (0 ∷ u) first) in
      absurd (first.2.is_open (sym gates))
  records_same (a ∷ answers) (b ∷ others) x y u v first second same =
      let both = ap (drop 1) (sym (first_parts job a answers x (0 ∷ u) first) ∙ same ∙ first_parts job b others y (0 ∷ v) second) in
      let spellings = spelling_same first.2.spelling second.2.spelling (first.1 ++ 0 ∷ u) (second.1 ++ 0 ∷ v) first.2.short second.2.short both in
      let one : a ≡ b = ok_is a b (sym (spelled_reads job first.2.spelling a is first.2.spells) ∙ ap (judged job) spellings.0 ∙ spelled_reads job second.2.spelling b is second.2.spells) in
      let rest = records_same answers others first.1 second.1 u v first.3 second.3 spellings.1 in
      λ i. one i ∷ rest i

  pub journal_same : (answers others : List Answer) (file : List ℕ) → IsJournal job answers file → IsJournal job others file → answers ≡ others
  journal_same answers others file first second =
      records_same answers others first.records second.records first.closed.0 second.closed.0 first.are_records second.are_records
      (append_cancel_left journal_magic (first.records ++ 0 ∷ first.closed.0) (second.records ++ 0 ∷ second.closed.0)
      (sym (append_assoc journal_magic first.records (0 ∷ first.closed.0)) ∙ sym first.closed.1 ∙ second.closed.1 ∙ append_assoc journal_magic second.records (0 ∷ second.closed.0)))

-- two states of one journal
pub one_state : (g h : GatherSpec) (file : List ℕ) → IsJob g.job → g.job ≡ h.job → IsJournalOf g file → IsJournalOf h file → g.cells ≡ h.cells
one_state g h file is same first second =
    let answers = journal_same g.job is first.answers second.answers file first.journal (subst (λ (job : JobSpec). IsJournal job second.answers file) (sym same) second.journal) in
    first.state ∙ (λ i. joined (same i).cut (answers i)) ∙ sym second.state
