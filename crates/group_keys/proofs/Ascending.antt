-- Keys that ascend.
use Rattle.std.specs.Prelude.{◌≡◌, ℕ, ◌+◌, ◌<◌, true, List, [], ◌∷◌, ◌++◌, length, get_or}
use Rattle.std.specs.Ordering.{is_lt}
use Rattle.std.proofs.Common.{sym, ap, subst, ◌∙◌, arith, inl, inr}
use Rattle.std.proofs.lemmas.Bool.{cases_lt}
use Rattle.std.proofs.lemmas.List.{get_or_default, get_or_append_left, get_or_push, length_push}
use Rattle.meaning.specs.Order.{Row, row_cmp}
use Rattle.group_keys.specs.Keys.{DoAscend, IsBehind}

pub none_ascend : DoAscend []
none_ascend k d l = absurd (omega (arith, l))

pub behind_none : (keys : List Row) (key : Row) → length keys ≡ 0 → IsBehind keys key
behind_none keys key none k d last = absurd (omega (arith, none, last))

pub behind_last : (keys : List Row) (key : Row) (at : ℕ) → at + 1 ≡ length keys → is_lt (row_cmp (get_or keys at []) key) ≡ true → IsBehind keys key
behind_last keys key at last before k d l =
    let is : at ≡ k = omega (arith, last, l) in
    let here : k < length keys = omega (arith, l) in
    subst (λ (row : Row). is_lt (row_cmp row key) ≡ true) (ap (λ (n : ℕ). get_or keys n []) is ∙ get_or_default keys k [] d here) before

pub one_more : (keys : List Row) (key : Row) → DoAscend keys → IsBehind keys key → DoAscend (keys ++ key ∷ [])
one_more keys key ascend behind k d l =
    let long = length_push keys key in
    let left : k < length keys = omega (arith, l, long) in
    let kept : get_or (keys ++ key ∷ []) k d ≡ get_or keys k d = get_or_append_left keys (key ∷ []) d k left in
    elim (cases_lt (k + 1) (length keys)) [
      | inl within ↦ ap is_lt (λ i. row_cmp (kept i) (get_or_append_left keys (key ∷ []) d (k + 1) within i)) ∙ ascend k d within
      | inr past ↦ (
          let last : k + 1 ≡ length keys = omega (arith, past, left) in
          ap is_lt (λ i. row_cmp (kept i) (get_or_push keys key d (k + 1) (sym last) i)) ∙ behind k d last)
    ]
