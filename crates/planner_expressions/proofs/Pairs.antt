-- What is made of parts that may be wanting.
use Rattle.std.proofs.Common.{◌≡◌, Option, Some, None, option_map, refl, ap, sym, ◌∙◌}
use Rattle.planner_expressions.specs.Translated.{two_some, three_some, pair_some}

module _ {X Y Z : Type 0} (f : X → Y → Z) where
  pub two_made : (a : Option X) (b : Option Y) (x : X) (y : Y) (p : X × Y) → p ≡ (x, y) → Some p ≡ pair_some a b → Some (f x y) ≡ two_some f a b
  two_made None b x y p p_is is = absurd cc
  two_made (Some v) None x y p p_is is = absurd cc
  two_made (Some v) (Some w) x y p p_is is = ap (λ (q : X × Y). Some (f q.0 q.1)) (sym p_is) ∙ ap (option_map (λ (q : X × Y). f q.0 q.1)) is

  pub two_wanting : (a : Option X) (b : Option Y) → None ≡ pair_some a b → None ≡ two_some f a b
  two_wanting None b is = refl
  two_wanting (Some v) None is = refl
  two_wanting (Some v) (Some w) is = absurd cc

module _ {X Y : Type 0} (f : X → X → X → Y) where
  pub three_made : (x y z : X) (a b c : Option X) (p : X × X) → p ≡ (y, z) → Some x ≡ a → Some p ≡ pair_some b c → Some (f x y z) ≡ three_some f a b c
  three_made x y z a b c p p_are a_is p_is = two_made (f x) b c y z p p_are p_is ∙ ap (λ (v : Option X). three_some f v b c) a_is

  pub three_wanting : (x : X) (a b c : Option X) → Some x ≡ a → None ≡ pair_some b c → None ≡ three_some f a b c
  three_wanting x a b c a_is p_is = two_wanting (f x) b c p_is ∙ ap (λ (v : Option X). three_some f v b c) a_is
