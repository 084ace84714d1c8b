-- The format that an answer's magic says.
use Rattle.std.proofs.Common.{◌≡◌, ℕ, ◌≤◌, Bool, true, false, ltb, List, [], ◌∷◌, length, take, drop, refl, sym, ◌∙◌, ap}
use Rattle.std.specs.Prelude.{Result, Ok, Err, Option, Some, None, if◌then◌else◌, option_map}
use Rattle.std.specs.Result.{result_ok}
use Rattle.std.proofs.lemmas.Bool.{ltb-false}
use Rattle.std.proofs.lemmas.List.{length-take-le}
use Rattle.wire.specs.Reading.{◌>>=◌, bytes_at, same_bytes}
use Rattle.wire.specs.declared.fault.WireFault.TheVariants.{Truncated}
use Rattle.wire.proofs.Numbers.{ok_is}
use Rattle.answer_fields.specs.Fault.{from_wire}
use Rattle.answer_fields.specs.Format.{format_at, format_in, format_of, magic}
use Rattle.answer_fields.specs.declared.fault.DecodeFault.{DecodeFault}
use Rattle.answer_fields.specs.declared.fault.DecodeFault.TheVariants as fault
use Rattle.answer_fields.specs.declared.format.Content.{Content}
use Rattle.answer_fields.specs.declared.format.Format.{Format}
use Rattle.answer_fields.specs.declared.format.Format.TheVariants.{First, Second}

cut_so : (n : ℕ) (bytes taken behind : List ℕ) (b : Bool) → ltb (length bytes) n ≡ b → from_wire {X = List ℕ × List ℕ} (if b then Err Truncated else Ok (take n bytes, drop n bytes)) ≡ Ok (taken, behind) → length taken ≡ n
cut_so n bytes taken behind true is read = absurd cc
cut_so n bytes taken behind false is read =
    let long : n ≤ length bytes = ltb-false _ _ is in
    let same : ◌≡◌ {A = Result (List ℕ × List ℕ) DecodeFault} (Ok (take n bytes, drop n bytes)) (Ok (taken, behind)) = read in
    let pair : (take n bytes, drop n bytes) ≡ (taken, behind) = ok_is {E = DecodeFault} (take n bytes, drop n bytes) (taken, behind) same in
    ap (λ (q : List ℕ × List ℕ). length q.0) (sym pair) ∙ length-take-le n bytes long

-- so many bytes were taken
pub taken_length : (n : ℕ) (bytes taken behind : List ℕ) → from_wire (bytes_at n bytes) ≡ Ok (taken, behind) → length taken ≡ n
unfolding bytes_at
taken_length n bytes taken behind read = cut_so n bytes taken behind (ltb (length bytes) n) refl read

four : (taken : List ℕ) → length taken ≡ 4 → bytes_at 4 taken ≡ Ok (taken, [])
unfolding bytes_at
four [] is = absurd cc
four (a ∷ []) is = absurd cc
four (a ∷ b ∷ []) is = absurd cc
four (a ∷ b ∷ c ∷ []) is = absurd cc
four (a ∷ b ∷ c ∷ d ∷ []) is = refl
four (a ∷ b ∷ c ∷ d ∷ e ∷ others) is = absurd cc

-- what the format is said to be
abbrev said : Result Format DecodeFault → Option Format
said (Ok f) = Some f
said (Err e) = None

module _ (content : Content) where
  of_four : (taken : List ℕ) → length taken ≡ 4 → format_in content taken ≡ said (format_of content taken)
  unfolding format_at
  of_four taken is = rw (four taken is) (elim (format_of content taken) as (λ (r : Result Format DecodeFault). option_map (λ (x : Format × List ℕ). x.0) (result_ok (r >>= λ format. Ok (format, []))) ≡ said r) [ Ok f ↦ refl | Err e ↦ refl ])

  is_format : (r : Result Format DecodeFault) (f : Format) → said r ≡ Some f → r ≡ Ok f
  is_format (Ok g) f is = let same : ◌≡◌ {A = Option Format} (Some g) (Some f) = is in let one : g ≡ f = cc same in ap (λ (x : Format). Ok x) one
  is_format (Err e) f is = absurd cc

  of_tests : (a b : Bool) → said (if a then Ok First else if b then Ok Second else Err fault.Magic) ≡ None → ◌≡◌ {A = Result Format DecodeFault} (if a then Ok First else if b then Ok Second else Err fault.Magic) (Err fault.Magic)
  of_tests true b is = absurd cc
  of_tests false true is = absurd cc
  of_tests false false is = refl

  is_none : (taken : List ℕ) → said (format_of content taken) ≡ None → format_of content taken ≡ Err fault.Magic
  is_none taken is = of_tests (same_bytes taken (magic content First)) (same_bytes taken (magic content Second)) is

  pub format_taken : (bytes taken behind : List ℕ) (f : Format) → from_wire (bytes_at 4 bytes) ≡ Ok (taken, behind) → format_in content taken ≡ Some f → format_at content bytes ≡ Ok (f, behind)
  unfolding format_at
  format_taken bytes taken behind f read is =
      let known = is_format (format_of content taken) f (sym (of_four taken (taken_length 4 bytes taken behind read)) ∙ is) in
      rw (read, known) refl

  pub no_format : (bytes taken behind : List ℕ) → from_wire (bytes_at 4 bytes) ≡ Ok (taken, behind) → format_in content taken ≡ None → format_at content bytes ≡ Err fault.Magic
  unfolding format_at
  no_format bytes taken behind read is =
      let unknown = is_none taken (sym (of_four taken (taken_length 4 bytes taken behind read)) ∙ is) in
      rw (read, unknown) refl
