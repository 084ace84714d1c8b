-- Where the tables of LEFT joins stand.
use Rattle.std.proofs.Common.{◌≡◌, ℕ, Bool, true, false, not, ◌&&◌, ◌||◌, List, [], ◌∷◌, ◌++◌, refl, ap, ap₂, ◌∙◌}
use Rattle.std.specs.List.{list_any}
use Rattle.sql_syntax.specs.declared.tree.Table as written
use Rattle.sql_syntax.specs.declared.tree.Joined.{Joined}
use Rattle.planner_expressions.specs.From.{join_type_of, is_left, is_fact, is_before_lefts, no_left_before}

any_last : {X : Type 0} (p : X → Bool) (xs : List X) (x : X) → list_any p (xs ++ x ∷ []) ≡ (list_any p xs || p x)
any_last p [] x = by (p x)
  where
    by : (b : Bool) → (b || false) ≡ b
    by true = refl
    by false = refl
any_last p (y ∷ xs) x = by (p y) (any_last p xs x)
  where
    by : (b : Bool) → list_any p (xs ++ x ∷ []) ≡ (list_any p xs || p x) → (b || list_any p (xs ++ x ∷ [])) ≡ ((b || list_any p xs) || p x)
    by true is = refl
    by false is = is

or_true : (a b : Bool) → a ≡ true → (a || b) ≡ true
or_true true b is = refl
or_true false b is = absurd cc

or_right : (b : Bool) → (b || true) ≡ true
or_right true = refl
or_right false = refl

or_none : (b : Bool) → (b || false) ≡ b
or_none true = refl
or_none false = refl

and_both : (a b : Bool) → a ≡ true → b ≡ true → (a && b) ≡ true
and_both true b is rest = rest
and_both false b is rest = absurd cc

module _ (fact : List ℕ) where
  -- behind the fact any join may be LEFT
  behind : (before : List written.Table) (js : List Joined) → list_any (is_fact fact) before ≡ true → is_before_lefts fact before js ≡ true
  behind before [] met = refl
  behind before (j ∷ js) met =
      let left = is_left (join_type_of j.kind) in
      let here : (not left || list_any (is_fact fact) before) ≡ true = ap (λ (b : Bool). not left || b) met ∙ or_right (not left) in
      let still : list_any (is_fact fact) (before ++ j.table ∷ []) ≡ true = any_last (is_fact fact) before j.table ∙ or_true (list_any (is_fact fact) before) (is_fact fact j.table) met in
      and_both (not left || list_any (is_fact fact) before) (is_before_lefts fact (before ++ j.table ∷ []) js) here (behind (before ++ j.table ∷ []) js still)

  by_test : (before : List written.Table) (j : Joined) (js : List Joined) (b : Bool) → list_any (is_fact fact) before ≡ false → is_fact fact j.table ≡ b
      → (list_any (is_fact fact) (before ++ j.table ∷ []) ≡ false → is_before_lefts fact (before ++ j.table ∷ []) js ≡ no_left_before fact js)
      → is_before_lefts fact (before ++ j.table ∷ []) js ≡ (b || no_left_before fact js)
  by_test before j js true none is rest = behind (before ++ j.table ∷ []) js (any_last (is_fact fact) before j.table ∙ ap₂ (λ (a b : Bool). a || b) none is)
  by_test before j js false none is rest = rest (any_last (is_fact fact) before j.table ∙ ap₂ (λ (a b : Bool). a || b) none is)

  -- before the fact none
  pub up_to : (before : List written.Table) (js : List Joined) → list_any (is_fact fact) before ≡ false → is_before_lefts fact before js ≡ no_left_before fact js
  up_to before [] none = refl
  up_to before (j ∷ js) none =
      let left = is_left (join_type_of j.kind) in
      ap₂ (λ (a b : Bool). a && b) (ap (λ (b : Bool). not left || b) none ∙ or_none (not left))
      (by_test before j js (is_fact fact j.table) none refl (up_to (before ++ j.table ∷ []) js))

  by_first : (first : written.Table) (js : List Joined) (b : Bool) → is_fact fact first ≡ b → is_before_lefts fact (first ∷ []) js ≡ (b || no_left_before fact js)
  by_first first js true is = behind (first ∷ []) js (or_none (is_fact fact first) ∙ is)
  by_first first js false is = up_to (first ∷ []) js (or_none (is_fact fact first) ∙ is)

  pub from_first : (first : written.Table) (js : List Joined) → is_before_lefts fact (first ∷ []) js ≡ (is_fact fact first || no_left_before fact js)
  from_first first js = by_first first js (is_fact fact first) refl
