-- The first four bytes, and the kinds that a format has: what is read is spelled so, and what is spelled is read again.
use Rattle.std.proofs.Common.{◌≡◌, ℕ, Bool, true, false, cond, List, [], ◌∷◌, ◌++◌, length, Result, Ok, refl, sym, ap, subst, ◌∙◌}
use Rattle.std.specs.Prelude.{option_map, is_some}
use Rattle.std.specs.List.{list_all}
use Rattle.std.specs.Result.{result_ok}
use Rattle.std.specs.Cmp.Lexicographic.{bytes_decides}
use Rattle.wire.specs.Reading.{◌>>=◌, bytes_at, same_bytes}
use Rattle.wire.proofs.Numbers.{bind_ok, ok_is, Takes, bytes_take, bytes_again}
use Rattle.wire.proofs.Parts.{IsSpelled}
use Rattle.answer_fields.specs.declared.fault.DecodeFault.{DecodeFault}
use Rattle.answer_fields.specs.declared.format.Content.{Content}
use Rattle.answer_fields.specs.declared.format.Content.TheVariants as of
use Rattle.answer_fields.specs.declared.format.Format.{Format}
use Rattle.answer_fields.specs.declared.format.Format.TheVariants.{First, Second}
use Rattle.answer_fields.specs.Format.{newest, has_kinds, magic, format_of, format_at}
use Rattle.answer_fields.specs.Shape.{Shape}
use Rattle.answer_fields.specs.StateSpelling.{is_state}
use Rattle.answer_fields.proofs.FromWire.{read_ok}

-- ---- magics

-- one more magic of those that are compared
one_case : (b : Bool) (first text : List ℕ) → (b ≡ true → first ≡ text) → (x : Format) (more : Result Format DecodeFault)
    (f : Format) (spell : Format → List ℕ) → spell x ≡ text → (more ≡ Ok f → first ≡ spell f) → cond b (Ok x) more ≡ Ok f
    → first ≡ spell f
one_case true first text is x more f spell same next e = is refl ∙ sym same ∙ ap spell (ok_is x f e)
one_case false first text is x more f spell same next e = next e

format_from : (content : Content) (first : List ℕ) (f : Format) → format_of content first ≡ Ok f → first ≡ magic content f
format_from content first f e =
    one_case (same_bytes first (magic content First)) first (magic content First) (bytes_decides first (magic content First)).0 First _
    f (magic content) refl
    (one_case (same_bytes first (magic content Second)) first (magic content Second) (bytes_decides first (magic content Second)).0
    Second _ f (magic content) refl (λ wrong. absurd cc)) e

pub format_takes : (content : Content) → IsSpelled (format_at content) (magic content)
unfolding format_at
format_takes content bytes p fits e =
    let a = read_ok (bytes_at 4 bytes) (λ first. format_of content first.0 >>= λ format. Ok (format, first.1)) p e in
    let b = bind_ok (format_of content a.0.0) (λ format. Ok (format, a.0.1)) p a.2 in
    let first = bytes_take 4 bytes a.0.0 a.0.1 fits a.1 in
    let made : Format × List ℕ = (b.0, a.0.1) in
    let taken : Takes bytes (magic content b.0) a.0.1 =
    subst (λ (text : List ℕ). Takes bytes text a.0.1) (format_from content a.0.0 b.0 b.1) first.0 in
    subst (λ (q : Format × List ℕ). Takes bytes (magic content q.0) q.1) (ok_is made p b.2) taken

four : (content : Content) (f : Format) → length (magic content f) ≡ 4
unfolding magic
four of.Answer First = refl
four of.Answer Second = refl
four of.State First = refl
four of.State Second = refl

named : (content : Content) (f : Format) → format_of content (magic content f) ≡ Ok f
unfolding magic
named of.Answer First = refl
named of.Answer Second = refl
named of.State First = refl
named of.State Second = refl

pub format_again : (content : Content) (f : Format) (rest : List ℕ) → format_at content (magic content f ++ rest) ≡ Ok (f, rest)
unfolding format_at
format_again content f rest = rw (bytes_again 4 (magic content f) rest (four content f), named content f) refl

unnamed : (f : Format) (rest : List ℕ) → is_some (option_map (λ (x : Format × List ℕ). x.0)
    (result_ok (format_of of.State (magic of.Answer f) >>= λ format. Ok (format, rest)))) ≡ false
unfolding magic
unnamed First rest = refl
unnamed Second rest = refl

-- what begins as an answer does not begin as a state
pub answers_apart : (f : Format) (rest : List ℕ) → is_state (magic of.Answer f ++ rest) ≡ false
unfolding format_at
answers_apart f rest = rw (bytes_again 4 (magic of.Answer f) rest (four of.Answer f)) (unnamed f rest)

-- ---- kinds

all_true : {X : Type 0} (xs : List X) → list_all (λ x. true) xs ≡ true
all_true [] = refl
all_true (x ∷ xs) = all_true xs

pub newest_has : (shape : Shape) → has_kinds newest shape ≡ true
newest_has shape = all_true shape.aggregates
