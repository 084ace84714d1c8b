-- What a crash leaves round a closed gate, and round one that is being opened.
use Rattle.std.specs.Prelude.{◌≡◌, ℕ, ◌+◌, ◌<◌, ◌≤◌, false, nat_le, nat_lt, List, [], ◌∷◌, ◌++◌, length, take, drop, get_or}
use Rattle.std.proofs.Common.{inl, inr, sym, ap, ◌∙◌, arith, append_assoc}
use Rattle.std.proofs.lemmas.Bool.{and_left, and_right, lt-leb, le-ltb, cases_eq}
use Rattle.std.proofs.lemmas.List.{length-append, length-take, length-take-le, length-drop, take_at, drop_at, drop_more, get_or-drop, get_or-take}
use Rattle.std.proofs.lemmas.List.Prefix.{front_from_reads, front_reads, at_from_reads}
use Rattle.disk.specs.Disk.{is_in, AgreesOutside}
use Rattle.journal.specs.Journal.{IsClosedBehind, IsButGate, IsWithOrWithout}

before_range : (offset from count : ℕ) → offset < from → is_in offset (record { from = from; count = count }) ≡ false
before_range offset from count below = and_left (nat_le from offset) (nat_lt offset (from + count)) (lt-leb from offset below)

behind_range : (offset from count : ℕ) → from + count ≤ offset → is_in offset (record { from = from; count = count }) ≡ false
behind_range offset from count behind = and_right (nat_le from offset) (nat_lt offset (from + count)) (le-ltb offset (from + count) behind)

module _ (gate : ℕ) (file : List ℕ) where
  -- the gate is one of the file's bytes
  pub gate_within : IsClosedBehind (take gate file) file → gate < length file
  gate_within closed = omega (arith, ap length closed.1, length-append (take gate file) (0 ∷ closed.0), length-take gate file)

  front_long : gate ≤ length file → length (take gate file) ≡ gate
  front_long within = length-take-le gate file within

  -- what is written behind a closed gate leaves it closed
  pub stays_closed : (count : ℕ) (image : List ℕ) → IsClosedBehind (take gate file) file → AgreesOutside (record { from = gate + 1; count = count }) file image → IsClosedBehind (take gate file) image
  stays_closed count image closed agrees =
      let within = gate_within closed in
      let front = take gate file ++ 0 ∷ [] in
      let long : length front ≡ gate + 1 = omega (arith, length-append (take gate file) (0 ∷ []), front_long (omega (arith, within))) in
      let parts : file ≡ front ++ closed.0 = closed.1 ∙ sym (append_assoc (take gate file) (0 ∷ []) closed.0) in
      let same : (i : ℕ) → i < length front → get_or image i 0 ≡ get_or front i 0 = λ i below.
      agrees.stay i (omega (arith, below, long, within)) (before_range i (gate + 1) count (omega (arith, below, long)))
      ∙ front_reads 0 file front closed.0 parts i below in (
        drop (length front) image,
        front_from_reads 0 image front (omega (arith, long, within, agrees.longer)) same ∙ append_assoc (take gate file) (0 ∷ []) (drop (length front) image),
      )

  -- what is written behind a closed gate stands there
  pub written_is : (bytes rest : List ℕ) → IsClosedBehind (take gate file) file → take (gate + 1) file ++ bytes ++ rest ≡ take gate file ++ 0 ∷ (bytes ++ rest)
  written_is bytes rest closed =
      let within = gate_within closed in
      let parts : file ≡ take gate file ++ 0 ∷ [] ++ closed.0 = closed.1 ∙ sym (append_assoc (take gate file) (0 ∷ []) closed.0) in
      let front : take (gate + 1) file ≡ take gate file ++ 0 ∷ [] =
      ap (take (gate + 1)) parts ∙ take_at (take gate file ++ 0 ∷ []) closed.0 (gate + 1) (omega (arith, length-append (take gate file) (0 ∷ []), front_long (omega (arith, within)))) in
      ap (λ (l : List ℕ). l ++ bytes ++ rest) front
      ∙ append_assoc (take gate file ++ 0 ∷ []) bytes rest
      ∙ append_assoc (take gate file) (0 ∷ []) (bytes ++ rest)

  -- while a gate is opened, all else stands
  pub but_gate : (image : List ℕ) → gate < length file → AgreesOutside (record { from = gate; count = 1 }) file image → IsButGate gate file image
  but_gate image within agrees =
      let front = take gate file in
      let tail = drop (gate + 1) file in
      let long : length front ≡ gate = front_long (omega (arith, within)) in
      let tail_long : length tail + (gate + 1) ≡ length file = omega (arith, length-drop (gate + 1) file, within) in
      let same_front : (i : ℕ) → i < length front → get_or image i 0 ≡ get_or front i 0 = λ i below.
      agrees.stay i (omega (arith, below, long, within)) (before_range i gate 1 (omega (arith, below, long)))
      ∙ sym (get_or-take gate file i 0 (omega (arith, below, long))) in
      let same_tail : (i : ℕ) → i < length tail → get_or image (gate + 1 + i) 0 ≡ get_or tail i 0 = λ i below.
      agrees.stay (gate + 1 + i) (omega (arith, below, tail_long)) (behind_range (gate + 1 + i) gate 1 (omega arith))
      ∙ sym (get_or-drop (gate + 1) file i 0) in
      let behind = drop (gate + 1 + length tail) image in
      let end : drop (gate + 1) image ≡ tail ++ behind = at_from_reads 0 image tail (gate + 1) (omega (arith, tail_long, agrees.longer)) same_tail in
      let whole : image ≡ front ++ drop (length front) image = front_from_reads 0 image front (omega (arith, long, within, agrees.longer)) same_front in (
        get_or image gate 0,
        behind,
        whole
            ∙ ap (λ (n : ℕ). front ++ drop n image) long
            ∙ ap (λ (l : List ℕ). front ++ l) (drop_more image gate 0 (omega (arith, within, agrees.longer)))
            ∙ ap (λ (l : List ℕ). front ++ get_or image gate 0 ∷ l) end,
      )

  module _ (record_with_gate rest staged : List ℕ) (is : staged ≡ take gate file ++ 0 ∷ (record_with_gate ++ rest)) (within : gate < length file) where
    staged_front : take gate staged ≡ take gate file
    staged_front = ap (take gate) is ∙ take_at (take gate file) (0 ∷ (record_with_gate ++ rest)) gate (front_long (omega (arith, within)))

    staged_behind : drop (gate + 1) staged ≡ record_with_gate ++ rest
    staged_behind =
        ap (drop (gate + 1)) (is ∙ sym (append_assoc (take gate file) (0 ∷ []) (record_with_gate ++ rest)))
        ∙ drop_at (take gate file ++ 0 ∷ []) (record_with_gate ++ rest) (gate + 1) (omega (arith, length-append (take gate file) (0 ∷ []), front_long (omega (arith, within))))

    pub staged_long : gate + 1 ≤ length staged
    staged_long = omega (arith, ap length is, length-append (take gate file) (0 ∷ (record_with_gate ++ rest)), front_long (omega (arith, within)))

    -- while the gate in front of a record is opened, the record counts or it doesn't
    pub with_or_without : (image : List ℕ) → IsButGate gate staged image → IsWithOrWithout (take gate file) record_with_gate image
    with_or_without image but =
        let parts : image ≡ take gate file ++ but.0 ∷ (record_with_gate ++ (rest ++ but.1)) =
        but.2 ∙ (λ i. staged_front i ++ but.0 ∷ (staged_behind i ++ but.1)) ∙ ap (λ (l : List ℕ). take gate file ++ but.0 ∷ l) (append_assoc record_with_gate rest but.1) in
        elim (cases_eq but.0 0) [
          | inl shut ↦ inl (record_with_gate ++ (rest ++ but.1), parts ∙ ap (λ (b : ℕ). take gate file ++ b ∷ (record_with_gate ++ (rest ++ but.1))) shut)
          | inr is_open ↦ inr (but.0, is_open, rest ++ but.1, parts)
        ]

    -- behind the opening
    pub opened_is : take gate staged ++ 1 ∷ drop (gate + 1) staged ≡ take gate file ++ 1 ∷ (record_with_gate ++ rest)
    opened_is = λ i. staged_front i ++ 1 ∷ staged_behind i
