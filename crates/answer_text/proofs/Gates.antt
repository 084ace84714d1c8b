-- Gates of a journal that are read one after the other.
use Rattle.std.proofs.Common.{◌≡◌, ◌≢◌, ℕ, suc, ◌+◌, ◌-◌, ◌<◌, ◌≤◌, Bool, true, false, List, [], ◌∷◌, ◌++◌, length, arith, refl, subst, sym, ap, ◌∙◌, append_assoc, append-nil}
use Rattle.std.specs.Prelude.{Result, Ok, Err, flat_map}
use Rattle.std.specs.List.{enumerate_from}
use Rattle.std.proofs.lemmas.Grind.{flat_map-append}
use Rattle.wire.specs.Reading.{◌>>=◌, Read}
use Rattle.answer_fields.specs.declared.fault.DecodeFault.{DecodeFault}
use Rattle.answer_text.specs.Journals.{JournalLayout, RecordLayout, ShowsGate, behind_record, gate_at, gate_text, gates_at, gates_text, no_records, record_at, record_text, records_text}
use Rattle.answer_text.specs.Reading.{IsSamePart, capped, fault_of}
use Rattle.answer_text.specs.declared.cursor.Cursor.{Cursor}
use Rattle.answer_text.specs.declared.damage.Stop.{Stop}
use Rattle.answer_text.specs.declared.damage.Wrong.TheVariants as wrong
use Rattle.answer_text.specs.declared.detail.Detail.{Detail}
use Rattle.answer_text.proofs.BodyShown.{differs}
use Rattle.answer_text.proofs.Cells.{numbered_more}

-- ---- a gate

module _ (whole bytes : List ℕ) where
  pub closed : (behind : List ℕ) → gate_at bytes ≡ Ok (0, behind) → (many : ℕ) → gates_at whole (suc many) bytes ≡ Ok (no_records whole bytes behind, behind)
  unfolding gates_at
  closed behind is many = rw is refl

  pub opened : (gate : ℕ) (between : List ℕ) → gate_at bytes ≡ Ok (gate, between) → gate ≢ 0 → (r : RecordLayout) (rest : List ℕ) → record_at whole between ≡ Ok (r, rest)
      → (many : ℕ) → gates_at whole (suc many) bytes ≡ behind_record r (gates_at whole many rest)
  unfolding gates_at
  opened gate between is other r rest read many = rw (is, differs gate 0 other, read) refl

  pub no_gate : (e : DecodeFault) → gate_at bytes ≡ Err e → (many : ℕ) → gates_at whole (suc many) bytes ≡ Err e
  unfolding gates_at
  no_gate e is many = rw is refl

  pub no_record : (gate : ℕ) (between : List ℕ) → gate_at bytes ≡ Ok (gate, between) → gate ≢ 0 → (e : DecodeFault) → record_at whole between ≡ Err e → (many : ℕ) → gates_at whole (suc many) bytes ≡ Err e
  unfolding gates_at
  no_record gate between is other e read many = rw (is, differs gate 0 other, read) refl

pub put_closed : (at behind first_left left : ℕ) (old new : List ℕ) → at ≡ first_left → behind ≡ left → new ≡ old ++ gate_text at behind → new ≡ old ++ gate_text first_left left
put_closed at behind first_left left old new is_at is_behind put = put ∙ (λ i. old ++ gate_text (is_at i) (is_behind i))

pub none_left : (whole bytes : List ℕ) → gates_at whole 0 bytes ≡ Err (fault_of wrong.NoGate)
unfolding gates_at
none_left whole bytes = refl

-- of another cursor over the same part
pub of_part : (detail : Detail) (number : ℕ) (a b : Cursor) (r : Result Bool Stop) (before after bytes rest : List ℕ) → IsSamePart a b → ShowsGate detail b.first number b.bytes.now r before after bytes rest → ShowsGate detail a.first number a.bytes.now r before after bytes rest
of_part detail number a b r before after bytes rest same shown =
    subst (λ whole. ShowsGate detail a.first number whole r before after bytes rest) same.1 (subst (λ first. ShowsGate detail first number b.bytes.now r before after bytes rest) same.0 shown)

module _ (detail : Detail) (first number : ℕ) (whole before after bytes rest : List ℕ) where
  pub if_closed : (b : Bool) → b ≡ true → ShowsGate detail first number whole (Ok b) before after bytes rest → ShowsGate detail first number whole (Ok true) before after bytes rest
  if_closed true is shown = shown
  if_closed false is shown = absurd cc

  pub if_open : (b : Bool) → b ≡ false → ShowsGate detail first number whole (Ok b) before after bytes rest → ShowsGate detail first number whole (Ok false) before after bytes rest
  if_open true is shown = absurd cc
  if_open false is shown = shown

-- ---- records that were read

abbrev pub with_records : List RecordLayout → JournalLayout → JournalLayout
with_records front j = record { records = front ++ j.records; before_gate = j.before_gate; behind_gate = j.behind_gate }

abbrev pub behind_all : List RecordLayout → Read DecodeFault JournalLayout → Read DecodeFault JournalLayout
behind_all front read = read >>= λ j. Ok (with_records front j.0, j.1)

begun : (read : Read DecodeFault JournalLayout) → behind_all [] read ≡ read
begun (Ok p) = refl
begun (Err e) = refl

moved : (front : List RecordLayout) (r : RecordLayout) (read : Read DecodeFault JournalLayout) → behind_all front (behind_record r read) ≡ behind_all (front ++ r ∷ []) read
moved front r (Ok p) = ap (λ (rs : List RecordLayout). Ok (record { records = rs; before_gate = p.0.before_gate; behind_gate = p.0.behind_gate }, p.1)) (sym (append_assoc front (r ∷ []) p.0.records))
moved front r (Err e) = refl

module _ (whole : List ℕ) (all : Read DecodeFault JournalLayout) (many : ℕ) where
  pub begin : (bytes : List ℕ) → gates_at whole many bytes ≡ all → behind_all [] (gates_at whole (many - 0) bytes) ≡ all
  begin bytes is =
      let same : many - 0 ≡ many = omega arith in
      ap (λ n. behind_all [] (gates_at whole n bytes)) same ∙ begun (gates_at whole many bytes) ∙ is

  module _ (front : List RecordLayout) (number : ℕ) (bytes : List ℕ) (so_far : behind_all front (gates_at whole (many - number) bytes) ≡ all) where
    one_more : number < many → behind_all front (gates_at whole (suc (many - (number + 1))) bytes) ≡ all
    one_more below =
        let same : suc (many - (number + 1)) ≡ many - number = omega (arith, below) in
        ap (λ n. behind_all front (gates_at whole n bytes)) same ∙ so_far

    pub go_on : number < many → (r : RecordLayout) (rest : List ℕ) → ((m : ℕ) → gates_at whole (suc m) bytes ≡ behind_record r (gates_at whole m rest)) → behind_all (front ++ r ∷ []) (gates_at whole (many - (number + 1)) rest) ≡ all
    go_on below r rest read =
        sym (moved front r (gates_at whole (many - (number + 1)) rest)) ∙ ap (behind_all front) (sym (read (many - (number + 1)))) ∙ one_more below

    pub finish : number < many → (rest : List ℕ) → ((m : ℕ) → gates_at whole (suc m) bytes ≡ Ok (no_records whole bytes rest, rest)) → all ≡ Ok (record { records = front; before_gate = length whole - length bytes; behind_gate = length rest }, rest)
    finish below rest read =
        sym (one_more below) ∙ ap (behind_all front) (read (many - (number + 1)))
        ∙ ap (λ (rs : List RecordLayout). Ok (record { records = rs; before_gate = length whole - length bytes; behind_gate = length rest }, rest)) (append-nil front)

    pub fail : number < many → (e : DecodeFault) → ((m : ℕ) → gates_at whole (suc m) bytes ≡ Err e) → all ≡ Err e
    fail below e read = sym (one_more below) ∙ ap (behind_all front) (read (many - (number + 1)))

    pub stop : many ≤ number → all ≡ Err (fault_of wrong.NoGate)
    stop done =
        let same : many - number ≡ 0 = omega (arith, done) in
        sym so_far ∙ ap (λ n. behind_all front (gates_at whole n bytes)) same ∙ ap (behind_all front) (none_left whole bytes)

-- ---- what is shown of them

module _ (detail : Detail) (first : ℕ) (old : List ℕ) where
  pub no_text : old ≡ old ++ records_text detail first []
  unfolding records_text
  no_text = sym (append-nil old)

  more_text : (records : List RecordLayout) (r : RecordLayout) (k : ℕ) → length records ≡ k → records_text detail first (records ++ r ∷ []) ≡ records_text detail first records ++ record_text detail first k r
  unfolding records_text
  more_text records r k is =
      let text : ℕ × RecordLayout → List ℕ = λ p. record_text detail first p.0 p.1 in
      ap (flat_map text) (numbered_more 0 records r k (grind (arith, is)))
      ∙ flat_map-append text (enumerate_from 0 records) ((k, r) ∷ [])
      ∙ ap (λ t. flat_map text (enumerate_from 0 records) ++ t) (append-nil (record_text detail first k r))

  pub record_more : (records : List RecordLayout) (r : RecordLayout) (k : ℕ) (before after : List ℕ) → length records ≡ k → before ≡ old ++ records_text detail first records → after ≡ before ++ record_text detail first k r
      → after ≡ old ++ records_text detail first (records ++ r ∷ [])
  record_more records r k before after is so_far put =
      put ∙ ap (λ t. t ++ record_text detail first k r) so_far ∙ append_assoc old (records_text detail first records) (record_text detail first k r) ∙ ap (λ t. old ++ t) (sym (more_text records r k is))

  pub gate_last : (records : List RecordLayout) (at behind : ℕ) (before after : List ℕ) → before ≡ old ++ records_text detail first records → after ≡ before ++ gate_text (capped (first + at)) behind
      → after ≡ old ++ gates_text detail first (record { records = records; before_gate = at; behind_gate = behind })
  gate_last records at behind before after so_far put =
      put ∙ ap (λ t. t ++ gate_text (capped (first + at)) behind) so_far ∙ append_assoc old (records_text detail first records) (gate_text (capped (first + at)) behind)
