-- Equal shapes, by what the code compares.
use Rattle.std.proofs.Common.{◌≡◌, Bool, true, false, ◌&&◌, List, [], ◌∷◌, map, refl, sym, ap, ◌∙◌}
use Rattle.std.specs.Cmp.Lexicographic.{pointwise}
use Rattle.meaning.specs.declared.plan.GroupingKey.{GroupingKey}
use Rattle.meaning.specs.declared.plan.Plan.{Plan}
use Rattle.answer_fields.specs.Shape.{Shape, shape_of, shape_of_aggregate, is_same_type, is_same_aggregate, is_same_shape}

pointwise_map : {X Y Z : Type 0} (test : X → Z → Bool) (f : Y → Z) (xs : List X) (ys : List Y) → pointwise test xs (map f ys) ≡ pointwise (λ x y. test x (f y)) xs ys
pointwise_map test f [] [] = refl
pointwise_map test f [] (y ∷ ys) = refl
pointwise_map test f (x ∷ xs) [] = refl
pointwise_map test f (x ∷ xs) (y ∷ ys) = ap (λ (b : Bool). test x (f y) && b) (pointwise_map test f xs ys)

module _ (shape : Shape) (plan : Plan) (keys : Bool) where
  abbrev AreKeys : Type 0
  AreKeys = keys ≡ pointwise (λ t k. is_same_type t k.col_type) shape.keys plan.keys

  same : (aggregates : Bool) → AreKeys → aggregates ≡ pointwise (λ s a. is_same_aggregate s (shape_of_aggregate a)) shape.aggregates plan.aggs → (keys && aggregates) ≡ is_same_shape shape (shape_of plan)
  same aggregates k a =
      rw (k, a, pointwise_map is_same_type (λ (k : GroupingKey). k.col_type) shape.keys plan.keys, pointwise_map is_same_aggregate shape_of_aggregate shape.aggregates plan.aggs) refl

  -- the keys are the same, and so the aggregates decide
  pub compared : (aggregates : Bool) → keys ≡ true → AreKeys → aggregates ≡ pointwise (λ s a. is_same_aggregate s (shape_of_aggregate a)) shape.aggregates plan.aggs → aggregates ≡ is_same_shape shape (shape_of plan)
  compared aggregates is k a = ap (λ (b : Bool). b && aggregates) (sym is) ∙ same aggregates k a

  pub not_same : keys ≡ false → AreKeys → keys ≡ is_same_shape shape (shape_of plan)
  not_same is k = is ∙ ap (λ (b : Bool). b && pointwise (λ s a. is_same_aggregate s (shape_of_aggregate a)) shape.aggregates plan.aggs) (sym is) ∙ same _ k refl
