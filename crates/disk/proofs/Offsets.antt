-- Bytes outside a range.
use Rattle.std.specs.Prelude.{◌≡◌, ℕ, ◌+◌, ◌-◌, ◌<◌, ◌≤◌, false, nat_lt, nat_le, ◌⊎◌, List, ◌++◌, length, take, drop, get_or}
use Rattle.std.proofs.Common.{inl, inr, refl, ap, ◌∙◌, arith}
use Rattle.std.proofs.lemmas.Bool.{and_cases, leb-false, ltb-false}
use Rattle.std.proofs.lemmas.List.{length-append, length-drop, length-take-le, get_or_append_left, get_or-append_right, get_or-take, get_or-drop}
use Rattle.disk.specs.declared.disk.Range.{Range}
use Rattle.disk.specs.Disk.{is_in, overwritten, AgreesOutside}

-- an offset that is not in a range is before it or behind it
pub outside_cases : (offset : ℕ) (r : Range) → is_in offset r ≡ false → (offset < r.from) ⊎ (r.from + r.count ≤ offset)
outside_cases offset r out = elim (and_cases (nat_le r.from offset) (nat_lt offset (r.from + r.count)) out) [
  | inl below ↦ inl (leb-false r.from offset below)
  | inr behind ↦ inr (ltb-false offset (r.from + r.count) behind)
]

-- nothing changes outside what is overwritten
pub overwritten_outside : (from : ℕ) (bytes old : List ℕ) → from ≤ length old → AgreesOutside (record { from = from; count = length bytes }) old (overwritten from bytes old)
overwritten_outside from bytes old within = record { longer = longer; stay = stay }
  where
    front_long : length (take from old ++ bytes) ≡ from + length bytes
    front_long = omega (arith, length-append (take from old) bytes, length-take-le from old within)

    longer : length old ≤ length (overwritten from bytes old)
    longer = omega (arith, front_long, length-append (take from old ++ bytes) (drop (from + length bytes) old), length-drop (from + length bytes) old)

    stay : (offset : ℕ) → offset < length old → is_in offset (record { from = from; count = length bytes }) ≡ false → get_or (overwritten from bytes old) offset 0 ≡ get_or old offset 0
    stay offset below out = elim (outside_cases offset (record { from = from; count = length bytes }) out) [
      | inl front ↦
          get_or_append_left (take from old ++ bytes) (drop (from + length bytes) old) 0 offset (omega (arith, front_long))
          ∙ get_or_append_left (take from old) bytes 0 offset (omega (arith, length-take-le from old within))
          ∙ get_or-take from old offset 0 front
      | inr behind ↦
          let same : (from + length bytes) + (offset - (from + length bytes)) ≡ offset = omega arith in
          get_or-append_right (take from old ++ bytes) (drop (from + length bytes) old) (from + length bytes) offset 0 front_long behind
          ∙ get_or-drop (from + length bytes) old (offset - (from + length bytes)) 0
          ∙ ap (λ (i : ℕ). get_or old i 0) same
    ]

-- bytes agree with themselves
pub agrees_itself : (r : Range) (old : List ℕ) → AgreesOutside r old old
agrees_itself r old = record { longer = omega arith; stay = λ offset below out. refl }
