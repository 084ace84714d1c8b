-- A tree's spelling says what tree it is, but for which of its names a column has.
use Rattle.std.proofs.Common.{rules, ◌≡◌, ℕ, ℤ, Bool, true, false, List, [], ◌∷◌, ◌++◌, map, Option, Some, None, refl, ap, ap₂, subst, sym, ◌∙◌, append_assoc}
use Rattle.std.proofs.lemmas.List.{append-nil}
use Rattle.sql_syntax.specs.declared.tree.Aggregate.{Aggregate}
use Rattle.meaning.specs.declared.expr.ArithmeticOperator.{ArithmeticOperator}
use Rattle.meaning.specs.declared.expr.ComparisonOperator.{ComparisonOperator}
use Rattle.sql_syntax.specs.declared.tree.Arm.{Arm}
use Rattle.sql_syntax.specs.declared.tree.Expr.{Expr}
use Rattle.sql_syntax.specs.declared.tree.Expr.TheOpen as node
use Rattle.sql_syntax.specs.declared.tree.Expr.TheOpen.{Expr-F, Arm-F}
use Rattle.sql_syntax.specs.declared.tree.Expr.TheFolds.{the_lemmas, ind-Expr, map-Expr, fold-roll-Expr}
use Rattle.sql_syntax.specs.declared.tree.Expr.TheViews.{roll-Expr, out-Expr}
use Rattle.planner_expressions.specs.declared.marks.Mark.{Mark}
use Rattle.planner_expressions.specs.declared.marks.Mark.TheVariants as mark
use Rattle.planner_expressions.specs.declared.marks.Operator.{Operator}
use Rattle.planner_expressions.specs.declared.marks.Operator.TheVariants as operator
use Rattle.planner_expressions.specs.declared.scope.ScopeColumn.{ScopeColumn}
use Rattle.planner_expressions.specs.declared.scope.Scope.{Scope}
use Rattle.planner_expressions.specs.Scope.{stands_for}
use Rattle.planner_expressions.specs.Spelled.{Spelling, column_mark, list_marks, arms_marks, spell_node, spell_arm, spelled, spelled_arm}
use Rattle.planner_expressions.proofs.Columns.{same_column}

-- ---- marks

pub tail_is : (j k : Mark) (xs ys : Spelling) → j ∷ xs ≡ k ∷ ys → xs ≡ ys
tail_is j k xs ys is = cc

head_is : (j k : Mark) (xs ys : Spelling) → j ∷ xs ≡ k ∷ ys → j ≡ k
head_is j k xs ys is = cc

pub operator_is : (a b : Operator) (xs ys : Spelling) → mark.Operator a ∷ xs ≡ mark.Operator b ∷ ys → a ≡ b
operator_is a b xs ys is = cc

-- ---- columns

column_same : (s : Scope) (t u : Option (List ℕ)) (m n : List ℕ) (o r : Option ScopeColumn) → stands_for s t m ≡ o → stands_for s u n ≡ r → column_mark o ≡ column_mark r → o ≡ r
column_same s t u m n None None o_is r_is is = refl
column_same s t u m n None (Some q) o_is r_is is = absurd cc
column_same s t u m n (Some p) None o_is r_is is = absurd cc
column_same s t u m n (Some p) (Some q) o_is r_is is =
    let marks : mark.Column p.owner p.name ≡ mark.Column q.owner q.name = is in
    let owner : p.owner ≡ q.owner = cc in
    let name : p.name ≡ q.name = cc in
    ap (λ (x : ScopeColumn). Some x) (same_column s t u m n p q o_is r_is owner name)

-- a name's mark, and no other node's
abbrev marks_name : Mark → Bool
marks_name (mark.Column owner name) = true
marks_name mark.Unknown = true
marks_name _ = false

name_marks : (o : Option ScopeColumn) → marks_name (column_mark o) ≡ true
name_marks None = refl
name_marks (Some p) = refl

no_column : (o : Option ScopeColumn) (m : Mark) (xs ys : Spelling) → marks_name m ≡ false → column_mark o ∷ xs ≡ m ∷ ys → ⊥
no_column o m xs ys other is = let wrong : true ≡ false = sym (name_marks o) ∙ ap marks_name (head_is _ _ xs ys is) ∙ other in cc

-- which node a mark is of

abbrev marks_integer : Mark → Bool
marks_integer (mark.Integer n) = true
marks_integer _ = false

abbrev marks_text : Mark → Bool
marks_text (mark.Text t) = true
marks_text _ = false

abbrev marks_count_rows : Mark → Bool
marks_count_rows (mark.Operator operator.CountRows) = true
marks_count_rows _ = false

abbrev pub marks_aggregate : Mark → Bool
marks_aggregate (mark.Operator (operator.Aggregate k)) = true
marks_aggregate _ = false

abbrev marks_minus : Mark → Bool
marks_minus (mark.Operator operator.Minus) = true
marks_minus _ = false

abbrev marks_arithmetic : Mark → Bool
marks_arithmetic (mark.Operator (operator.Arithmetic k)) = true
marks_arithmetic _ = false

abbrev marks_compare : Mark → Bool
marks_compare (mark.Operator (operator.Compare k)) = true
marks_compare _ = false

abbrev marks_not : Mark → Bool
marks_not (mark.Operator operator.Not) = true
marks_not _ = false

abbrev marks_and : Mark → Bool
marks_and (mark.Operator operator.And) = true
marks_and _ = false

abbrev marks_or : Mark → Bool
marks_or (mark.Operator operator.Or) = true
marks_or _ = false

abbrev marks_is_null : Mark → Bool
marks_is_null (mark.Operator (operator.IsNull k)) = true
marks_is_null _ = false

abbrev marks_between : Mark → Bool
marks_between (mark.Operator (operator.Between k)) = true
marks_between _ = false

abbrev marks_in : Mark → Bool
marks_in (mark.Operator (operator.In k)) = true
marks_in _ = false

abbrev marks_like : Mark → Bool
marks_like (mark.Operator (operator.Like k)) = true
marks_like _ = false

abbrev marks_coalesce : Mark → Bool
marks_coalesce (mark.Operator operator.Coalesce) = true
marks_coalesce _ = false

abbrev marks_case : Mark → Bool
marks_case (mark.Operator operator.Case) = true
marks_case _ = false

-- nodes of two kinds begin with two marks
pub apart : (test : Mark → Bool) (a b : Mark) (xs ys : Spelling) → test a ≡ true → test b ≡ false → a ∷ xs ≡ b ∷ ys → ⊥
apart test a b xs ys there other is = let wrong : true ≡ false = sym there ∙ ap test (head_is a b xs ys is) ∙ other in cc

-- ---- trees

-- R holds of trees whose nodes are of one kind and whose parts go together by R, where two names refer to one column
module _ (s : Scope) (R : Expr → Expr → Type 0) where
  abbrev pub Pair : Type 0
  Pair = (a : Expr) × (b : Expr) × R a b

  abbrev pub ArmPair : Type 0
  ArmPair = (a : Arm) × (b : Arm) × R a.condition b.condition × R a.value b.value

  abbrev pub lefts : Expr-F Pair ArmPair → Expr-F Expr Arm
  lefts = map-Expr Pair ArmPair Expr Arm (λ p. p.0) (λ p. p.0)

  abbrev pub rights : Expr-F Pair ArmPair → Expr-F Expr Arm
  rights = map-Expr Pair ArmPair Expr Arm (λ p. p.1) (λ p. p.1)

  module _ (closed : (x : Expr-F Pair ArmPair) → R (roll-Expr (lefts x)) (roll-Expr (rights x)))
      (by_name : (t u : Option (List ℕ)) (m n : List ℕ) → stands_for s t m ≡ stands_for s u n → R (roll-Expr (node.Column t m)) (roll-Expr (node.Column u n))) where
    abbrev Alike : Expr → Type 0
    Alike a = (b : Expr) (u v : Spelling) → spelled s a ++ u ≡ spelled s b ++ v → R a b × (u ≡ v)

    abbrev AlikeArm : Arm → Type 0
    AlikeArm a = (b : Arm) (u v : Spelling) → spelled s a.condition ++ (spelled s a.value ++ u) ≡ spelled s b.condition ++ (spelled s b.value ++ v)
        → (R a.condition b.condition × R a.value b.value) × (u ≡ v)

    abbrev Knowing : Type 0
    Knowing = (a : Expr) × Alike a

    abbrev KnowingArm : Type 0
    KnowingArm = (a : Arm) × AlikeArm a

    abbrev bare : Expr-F Knowing KnowingArm → Expr-F Expr Arm
    bare = map-Expr Knowing KnowingArm Expr Arm (λ e. e.0) (λ a. a.0)

    abbrev spell_at : Expr-F Expr Arm → Spelling
    spell_at x = spell_node s (map-Expr Expr Arm Spelling (Spelling × Spelling) (spelled s) (spelled_arm s) x)

    abbrev trees_of : List Knowing → List Expr
    trees_of = map (λ (e : Knowing). e.0)

    abbrev arms_in : List KnowingArm → List Arm
    arms_in = map (λ (a : KnowingArm). a.0)

    arm_spelled : (a : Arm) → spelled_arm s a ≡ (spelled s a.condition, spelled s a.value)
    arm_spelled a = search (rules, the_lemmas)

    -- ---- parts

    two_alike : (a c : Knowing) (b d : Expr) (u v : Spelling) → (spelled s a.0 ++ spelled s c.0) ++ u ≡ (spelled s b ++ spelled s d) ++ v → R a.0 b × R c.0 d × (u ≡ v)
    two_alike a c b d u v is =
        let first = a.1 b (spelled s c.0 ++ u) (spelled s d ++ v) (sym (append_assoc (spelled s a.0) (spelled s c.0) u) ∙ is ∙ append_assoc (spelled s b) (spelled s d) v) in
        let second = c.1 d u v first.1 in
        (first.0, second.0, second.1)

    list_alike : (es : List Knowing) (fs : List Expr) (u v : Spelling) → list_marks (map (spelled s) (trees_of es)) ++ u ≡ list_marks (map (spelled s) fs) ++ v
        → (ps : List Pair) × (map (λ (p : Pair). p.0) ps ≡ trees_of es) × (map (λ (p : Pair). p.1) ps ≡ fs) × (u ≡ v)
    list_alike [] [] u v is = ([], refl, refl, tail_is _ _ u v is)
    list_alike [] (f ∷ fs) u v is = absurd cc
    list_alike (e ∷ es) [] u v is = absurd cc
    list_alike (e ∷ es) (f ∷ fs) u v is =
        let left = list_marks (map (spelled s) (trees_of es)) in
        let right = list_marks (map (spelled s) fs) in
        let here = e.1 f (left ++ u) (right ++ v) (sym (append_assoc (spelled s e.0) left u) ∙ tail_is mark.More mark.More _ _ is ∙ append_assoc (spelled s f) right v) in
        let rest = list_alike es fs u v here.1 in
        ((e.0, f, here.0) ∷ rest.0, ap (λ (xs : List Expr). e.0 ∷ xs) rest.1, ap (λ (xs : List Expr). f ∷ xs) rest.2, rest.3)

    abbrev arm_marks : Arm → Spelling → Spelling
    arm_marks a rest = (spelled_arm s a).0 ++ ((spelled_arm s a).1 ++ rest)

    arm_tail : (a : Arm) (rest u : Spelling) → arm_marks a rest ++ u ≡ spelled s a.condition ++ (spelled s a.value ++ (rest ++ u))
    arm_tail a rest u =
        ap (λ (p : Spelling × Spelling). (p.0 ++ (p.1 ++ rest)) ++ u) (arm_spelled a)
        ∙ append_assoc (spelled s a.condition) (spelled s a.value ++ rest) u
        ∙ ap (λ (xs : Spelling). spelled s a.condition ++ xs) (append_assoc (spelled s a.value) rest u)

    arms_alike : (list : List KnowingArm) (others : List Arm) (u v : Spelling) → arms_marks (map (spelled_arm s) (arms_in list)) ++ u ≡ arms_marks (map (spelled_arm s) others) ++ v
        → (ps : List ArmPair) × (map (λ (p : ArmPair). p.0) ps ≡ arms_in list) × (map (λ (p : ArmPair). p.1) ps ≡ others) × (u ≡ v)
    arms_alike [] [] u v is = ([], refl, refl, tail_is _ _ u v is)
    arms_alike [] (b ∷ others) u v is = absurd cc
    arms_alike (a ∷ list) [] u v is = absurd cc
    arms_alike (a ∷ list) (b ∷ others) u v is =
        let left = arms_marks (map (spelled_arm s) (arms_in list)) in
        let right = arms_marks (map (spelled_arm s) others) in
        let here = a.1 b (left ++ u) (right ++ v) (sym (arm_tail a.0 left u) ∙ tail_is mark.More mark.More _ _ is ∙ arm_tail b right v) in
        let rest = arms_alike list others u v here.1 in
        ((a.0, b, here.0.0, here.0.1) ∷ rest.0, ap (λ (xs : List Arm). a.0 ∷ xs) rest.1, ap (λ (xs : List Arm). b ∷ xs) rest.2, rest.3)

    -- ---- nodes

    goes : (x y z w : Expr) → x ≡ y → z ≡ w → R x z → R y w
    goes x y z w first second here = subst (λ (e : Expr). R e w) first (subst (λ (e : Expr). R x e) second here)

    abbrev AreAlike : Expr-F Expr Arm → Expr-F Expr Arm → Spelling → Spelling → Type 0
    AreAlike x z u v = R (roll-Expr x) (roll-Expr z) × (u ≡ v)

    rest_is : (k : Mark) (xs ys : Spelling) → k ∷ xs ≡ k ∷ ys → xs ≡ ys
    rest_is k xs ys is = tail_is k k xs ys is

    column_alike : (t : Option (List ℕ)) (m : List ℕ) (z : Expr-F Expr Arm) (u v : Spelling) → spell_at (bare (node.Column t m)) ++ u ≡ spell_at z ++ v → AreAlike (bare (node.Column t m)) z u v
    column_alike t m (node.Column w n) u v is =
        let left = column_mark (stands_for s t m) in
        let right = column_mark (stands_for s w n) in
        (by_name t w m n (column_same s t w m n (stands_for s t m) (stands_for s w n) refl refl (head_is left right u v is)), tail_is left right u v is)
    column_alike t m _ u v is = absurd (no_column (stands_for s t m) _ u _ refl is)

    integer_alike : (n : ℤ) (z : Expr-F Expr Arm) (u v : Spelling) → spell_at (bare (node.Integer n)) ++ u ≡ spell_at z ++ v → AreAlike (bare (node.Integer n)) z u v
    integer_alike n (node.Column w m) u v is = absurd (no_column (stands_for s w m) _ v _ refl (sym is))
    integer_alike n (node.Integer m) u v is =
        let marks : mark.Integer n ≡ mark.Integer m = head_is _ _ u v is in
        let same : n ≡ m = cc in
        (subst (λ (k : ℤ). R (roll-Expr (node.Integer n)) (roll-Expr (node.Integer k))) same (closed (node.Integer n)), tail_is _ _ u v is)
    integer_alike n _ u v is = absurd (apart marks_integer _ _ _ _ refl refl is)

    text_alike : (t : List ℕ) (z : Expr-F Expr Arm) (u v : Spelling) → spell_at (bare (node.Text t)) ++ u ≡ spell_at z ++ v → AreAlike (bare (node.Text t)) z u v
    text_alike t (node.Column w m) u v is = absurd (no_column (stands_for s w m) _ v _ refl (sym is))
    text_alike t (node.Text w) u v is =
        let marks : mark.Text t ≡ mark.Text w = head_is _ _ u v is in
        let same : t ≡ w = cc in
        (subst (λ (x : List ℕ). R (roll-Expr (node.Text t)) (roll-Expr (node.Text x))) same (closed (node.Text t)), tail_is _ _ u v is)
    text_alike t _ u v is = absurd (apart marks_text _ _ _ _ refl refl is)

    countrows_alike : (z : Expr-F Expr Arm) (u v : Spelling) → spell_at (bare node.CountRows) ++ u ≡ spell_at z ++ v → AreAlike (bare node.CountRows) z u v
    countrows_alike (node.Column w m) u v is = absurd (no_column (stands_for s w m) _ v _ refl (sym is))
    countrows_alike node.CountRows u v is = (closed node.CountRows, rest_is (mark.Operator operator.CountRows) u v is)
    countrows_alike _ u v is = absurd (apart marks_count_rows _ _ _ _ refl refl is)

    aggregate_alike : (k : Aggregate) (a : Knowing) (z : Expr-F Expr Arm) (u v : Spelling) → spell_at (bare (node.Aggregate k a)) ++ u ≡ spell_at z ++ v → AreAlike (bare (node.Aggregate k a)) z u v
    aggregate_alike k a (node.Column w m) u v is = absurd (no_column (stands_for s w m) _ v _ refl (sym is))
    aggregate_alike k a (node.Aggregate l b) u v is =
        let operators : operator.Aggregate k ≡ operator.Aggregate l = operator_is _ _ _ _ is in
        let kind : k ≡ l = cc in
        let part = a.1 b u v (tail_is _ _ _ _ is) in
        (subst (λ (x : Aggregate). R (roll-Expr (node.Aggregate k a.0)) (roll-Expr (node.Aggregate x b))) kind (closed (node.Aggregate k (a.0, b, part.0))), part.1)
    aggregate_alike k a _ u v is = absurd (apart marks_aggregate _ _ _ _ refl refl is)

    minus_alike : (a : Knowing) (z : Expr-F Expr Arm) (u v : Spelling) → spell_at (bare (node.Minus a)) ++ u ≡ spell_at z ++ v → AreAlike (bare (node.Minus a)) z u v
    minus_alike a (node.Column w m) u v is = absurd (no_column (stands_for s w m) _ v _ refl (sym is))
    minus_alike a (node.Minus b) u v is = let part = a.1 b u v (rest_is (mark.Operator operator.Minus) _ _ is) in (closed (node.Minus (a.0, b, part.0)), part.1)
    minus_alike a _ u v is = absurd (apart marks_minus _ _ _ _ refl refl is)

    arithmetic_alike : (k : ArithmeticOperator) (a c : Knowing) (z : Expr-F Expr Arm) (u v : Spelling) → spell_at (bare (node.Arithmetic k a c)) ++ u ≡ spell_at z ++ v → AreAlike (bare (node.Arithmetic k a c)) z u v
    arithmetic_alike k a c (node.Column w m) u v is = absurd (no_column (stands_for s w m) _ v _ refl (sym is))
    arithmetic_alike k a c (node.Arithmetic l b d) u v is =
        let operators : operator.Arithmetic k ≡ operator.Arithmetic l = operator_is _ _ _ _ is in
        let kind : k ≡ l = cc in
        let parts = two_alike a c b d u v (tail_is _ _ _ _ is) in
        (subst (λ (x : ArithmeticOperator). R (roll-Expr (node.Arithmetic k a.0 c.0)) (roll-Expr (node.Arithmetic x b d))) kind (closed (node.Arithmetic k (a.0, b, parts.0) (c.0, d, parts.1))), parts.2)
    arithmetic_alike k a c _ u v is = absurd (apart marks_arithmetic _ _ _ _ refl refl is)

    compare_alike : (k : ComparisonOperator) (a c : Knowing) (z : Expr-F Expr Arm) (u v : Spelling) → spell_at (bare (node.Compare k a c)) ++ u ≡ spell_at z ++ v → AreAlike (bare (node.Compare k a c)) z u v
    compare_alike k a c (node.Column w m) u v is = absurd (no_column (stands_for s w m) _ v _ refl (sym is))
    compare_alike k a c (node.Compare l b d) u v is =
        let operators : operator.Compare k ≡ operator.Compare l = operator_is _ _ _ _ is in
        let kind : k ≡ l = cc in
        let parts = two_alike a c b d u v (tail_is _ _ _ _ is) in
        (subst (λ (x : ComparisonOperator). R (roll-Expr (node.Compare k a.0 c.0)) (roll-Expr (node.Compare x b d))) kind (closed (node.Compare k (a.0, b, parts.0) (c.0, d, parts.1))), parts.2)
    compare_alike k a c _ u v is = absurd (apart marks_compare _ _ _ _ refl refl is)

    not_node_alike : (a : Knowing) (z : Expr-F Expr Arm) (u v : Spelling) → spell_at (bare (node.Not a)) ++ u ≡ spell_at z ++ v → AreAlike (bare (node.Not a)) z u v
    not_node_alike a (node.Column w m) u v is = absurd (no_column (stands_for s w m) _ v _ refl (sym is))
    not_node_alike a (node.Not b) u v is = let part = a.1 b u v (rest_is (mark.Operator operator.Not) _ _ is) in (closed (node.Not (a.0, b, part.0)), part.1)
    not_node_alike a _ u v is = absurd (apart marks_not _ _ _ _ refl refl is)

    and_node_alike : (a c : Knowing) (z : Expr-F Expr Arm) (u v : Spelling) → spell_at (bare (node.And a c)) ++ u ≡ spell_at z ++ v → AreAlike (bare (node.And a c)) z u v
    and_node_alike a c (node.Column w m) u v is = absurd (no_column (stands_for s w m) _ v _ refl (sym is))
    and_node_alike a c (node.And b d) u v is = let parts = two_alike a c b d u v (rest_is (mark.Operator operator.And) _ _ is) in (closed (node.And (a.0, b, parts.0) (c.0, d, parts.1)), parts.2)
    and_node_alike a c _ u v is = absurd (apart marks_and _ _ _ _ refl refl is)

    or_node_alike : (a c : Knowing) (z : Expr-F Expr Arm) (u v : Spelling) → spell_at (bare (node.Or a c)) ++ u ≡ spell_at z ++ v → AreAlike (bare (node.Or a c)) z u v
    or_node_alike a c (node.Column w m) u v is = absurd (no_column (stands_for s w m) _ v _ refl (sym is))
    or_node_alike a c (node.Or b d) u v is = let parts = two_alike a c b d u v (rest_is (mark.Operator operator.Or) _ _ is) in (closed (node.Or (a.0, b, parts.0) (c.0, d, parts.1)), parts.2)
    or_node_alike a c _ u v is = absurd (apart marks_or _ _ _ _ refl refl is)

    isnull_alike : (k : Bool) (a : Knowing) (z : Expr-F Expr Arm) (u v : Spelling) → spell_at (bare (node.IsNull k a)) ++ u ≡ spell_at z ++ v → AreAlike (bare (node.IsNull k a)) z u v
    isnull_alike k a (node.Column w m) u v is = absurd (no_column (stands_for s w m) _ v _ refl (sym is))
    isnull_alike k a (node.IsNull l b) u v is =
        let operators : operator.IsNull k ≡ operator.IsNull l = operator_is _ _ _ _ is in
        let negated : k ≡ l = cc in
        let part = a.1 b u v (tail_is _ _ _ _ is) in
        (subst (λ (x : Bool). R (roll-Expr (node.IsNull k a.0)) (roll-Expr (node.IsNull x b))) negated (closed (node.IsNull k (a.0, b, part.0))), part.1)
    isnull_alike k a _ u v is = absurd (apart marks_is_null _ _ _ _ refl refl is)

    between_alike : (k : Bool) (a low high : Knowing) (z : Expr-F Expr Arm) (u v : Spelling) → spell_at (bare (node.Between k a low high)) ++ u ≡ spell_at z ++ v → AreAlike (bare (node.Between k a low high)) z u v
    between_alike k a low high (node.Column w m) u v is = absurd (no_column (stands_for s w m) _ v _ refl (sym is))
    between_alike k a low high (node.Between l b below above) u v is =
        let operators : operator.Between k ≡ operator.Between l = operator_is _ _ _ _ is in
        let negated : k ≡ l = cc in
        let left = spelled s low.0 ++ spelled s high.0 in
        let right = spelled s below ++ spelled s above in
        let part = a.1 b (left ++ u) (right ++ v) (sym (append_assoc (spelled s a.0) left u) ∙ tail_is _ _ _ _ is ∙ append_assoc (spelled s b) right v) in
        let bounds = two_alike low high below above u v part.1 in (
          subst (λ (x : Bool). R (roll-Expr (node.Between k a.0 low.0 high.0)) (roll-Expr (node.Between x b below above))) negated
              (closed (node.Between k (a.0, b, part.0) (low.0, below, bounds.0) (high.0, above, bounds.1))),
          bounds.2,
        )
    between_alike k a low high _ u v is = absurd (apart marks_between _ _ _ _ refl refl is)

    in_node_alike : (k : Bool) (a : Knowing) (es : List Knowing) (z : Expr-F Expr Arm) (u v : Spelling) → spell_at (bare (node.In k a es)) ++ u ≡ spell_at z ++ v → AreAlike (bare (node.In k a es)) z u v
    in_node_alike k a es (node.Column w m) u v is = absurd (no_column (stands_for s w m) _ v _ refl (sym is))
    in_node_alike k a es (node.In l b fs) u v is =
        let operators : operator.In k ≡ operator.In l = operator_is _ _ _ _ is in
        let negated : k ≡ l = cc in
        let left = list_marks (map (spelled s) (trees_of es)) in
        let right = list_marks (map (spelled s) fs) in
        let part = a.1 b (left ++ u) (right ++ v) (sym (append_assoc (spelled s a.0) left u) ∙ tail_is _ _ _ _ is ∙ append_assoc (spelled s b) right v) in
        let list = list_alike es fs u v part.1 in (
          goes (roll-Expr (node.In k a.0 (map (λ (p : Pair). p.0) list.0))) (roll-Expr (node.In k a.0 (trees_of es))) (roll-Expr (node.In k b (map (λ (p : Pair). p.1) list.0))) (roll-Expr (node.In l b fs))
              (ap (λ (xs : List Expr). roll-Expr (node.In k a.0 xs)) list.1) (ap₂ (λ (x : Bool) (xs : List Expr). roll-Expr (node.In x b xs)) negated list.2)
              (closed (node.In k (a.0, b, part.0) list.0)),
          list.3,
        )
    in_node_alike k a es _ u v is = absurd (apart marks_in _ _ _ _ refl refl is)

    like_node_alike : (k : Bool) (a : Knowing) (t : List ℕ) (z : Expr-F Expr Arm) (u v : Spelling) → spell_at (bare (node.Like k a t)) ++ u ≡ spell_at z ++ v → AreAlike (bare (node.Like k a t)) z u v
    like_node_alike k a t (node.Column w m) u v is = absurd (no_column (stands_for s w m) _ v _ refl (sym is))
    like_node_alike k a t (node.Like l b w) u v is =
        let operators : operator.Like k ≡ operator.Like l = operator_is _ _ _ _ is in
        let negated : k ≡ l = cc in
        let left = mark.Text t ∷ [] in
        let right = mark.Text w ∷ [] in
        let part = a.1 b (left ++ u) (right ++ v) (sym (append_assoc (spelled s a.0) left u) ∙ tail_is _ _ _ _ is ∙ append_assoc (spelled s b) right v) in
        let marks : mark.Text t ≡ mark.Text w = head_is _ _ u v part.1 in
        let pattern : t ≡ w = cc in (
          goes (roll-Expr (node.Like k a.0 t)) (roll-Expr (node.Like k a.0 t)) (roll-Expr (node.Like k b t)) (roll-Expr (node.Like l b w)) refl
              (ap₂ (λ (x : Bool) (y : List ℕ). roll-Expr (node.Like x b y)) negated pattern) (closed (node.Like k (a.0, b, part.0) t)),
          tail_is _ _ u v part.1,
        )
    like_node_alike k a t _ u v is = absurd (apart marks_like _ _ _ _ refl refl is)

    coalesce_alike : (es : List Knowing) (z : Expr-F Expr Arm) (u v : Spelling) → spell_at (bare (node.Coalesce es)) ++ u ≡ spell_at z ++ v → AreAlike (bare (node.Coalesce es)) z u v
    coalesce_alike es (node.Column w m) u v is = absurd (no_column (stands_for s w m) _ v _ refl (sym is))
    coalesce_alike es (node.Coalesce fs) u v is =
        let list = list_alike es fs u v (rest_is (mark.Operator operator.Coalesce) _ _ is) in (
          goes (roll-Expr (node.Coalesce (map (λ (p : Pair). p.0) list.0))) (roll-Expr (node.Coalesce (trees_of es))) (roll-Expr (node.Coalesce (map (λ (p : Pair). p.1) list.0))) (roll-Expr (node.Coalesce fs))
              (ap (λ (xs : List Expr). roll-Expr (node.Coalesce xs)) list.1) (ap (λ (xs : List Expr). roll-Expr (node.Coalesce xs)) list.2) (closed (node.Coalesce list.0)),
          list.3,
        )
    coalesce_alike es _ u v is = absurd (apart marks_coalesce _ _ _ _ refl refl is)

    case_node_alike : (arms : List KnowingArm) (o : Option Knowing) (z : Expr-F Expr Arm) (u v : Spelling) → spell_at (bare (node.Case arms o)) ++ u ≡ spell_at z ++ v → AreAlike (bare (node.Case arms o)) z u v
    case_node_alike arms o (node.Column w m) u v is = absurd (no_column (stands_for s w m) _ v _ refl (sym is))
    case_node_alike arms None (node.Case others None) u v is =
        let left = mark.End ∷ [] in
        let marks_are = sym (append_assoc (arms_marks (map (spelled_arm s) (arms_in arms))) left u) ∙ rest_is (mark.Operator operator.Case) _ _ is ∙ append_assoc (arms_marks (map (spelled_arm s) others)) left v in
        let list = arms_alike arms others (mark.End ∷ u) (mark.End ∷ v) marks_are in (
          goes (roll-Expr (node.Case (map (λ (p : ArmPair). p.0) list.0) None)) (roll-Expr (node.Case (arms_in arms) None)) (roll-Expr (node.Case (map (λ (p : ArmPair). p.1) list.0) None)) (roll-Expr (node.Case others None))
              (ap (λ (xs : List Arm). roll-Expr (node.Case xs None)) list.1) (ap (λ (xs : List Arm). roll-Expr (node.Case xs None)) list.2) (closed (node.Case list.0 None)),
          rest_is mark.End u v list.3,
        )
    case_node_alike arms None (node.Case others (Some f)) u v is =
        let right = mark.More ∷ spelled s f in
        let marks_are = sym (append_assoc (arms_marks (map (spelled_arm s) (arms_in arms))) (mark.End ∷ []) u) ∙ rest_is (mark.Operator operator.Case) _ _ is ∙ append_assoc (arms_marks (map (spelled_arm s) others)) right v in
        let list = arms_alike arms others (mark.End ∷ u) (right ++ v) marks_are in
        let wrong = list.3 in absurd cc
    case_node_alike arms (Some e) (node.Case others None) u v is =
        let left = mark.More ∷ spelled s e.0 in
        let marks_are = sym (append_assoc (arms_marks (map (spelled_arm s) (arms_in arms))) left u) ∙ rest_is (mark.Operator operator.Case) _ _ is ∙ append_assoc (arms_marks (map (spelled_arm s) others)) (mark.End ∷ []) v in
        let list = arms_alike arms others (left ++ u) (mark.End ∷ v) marks_are in
        let wrong = list.3 in absurd cc
    case_node_alike arms (Some e) (node.Case others (Some f)) u v is =
        let left = mark.More ∷ spelled s e.0 in
        let right = mark.More ∷ spelled s f in
        let marks_are = sym (append_assoc (arms_marks (map (spelled_arm s) (arms_in arms))) left u) ∙ rest_is (mark.Operator operator.Case) _ _ is ∙ append_assoc (arms_marks (map (spelled_arm s) others)) right v in
        let list = arms_alike arms others (left ++ u) (right ++ v) marks_are in
        let last = e.1 f u v (rest_is mark.More _ _ list.3) in (
          goes (roll-Expr (node.Case (map (λ (p : ArmPair). p.0) list.0) (Some e.0))) (roll-Expr (node.Case (arms_in arms) (Some e.0))) (roll-Expr (node.Case (map (λ (p : ArmPair). p.1) list.0) (Some f))) (roll-Expr (node.Case others (Some f)))
              (ap (λ (xs : List Arm). roll-Expr (node.Case xs (Some e.0))) list.1) (ap (λ (xs : List Arm). roll-Expr (node.Case xs (Some f))) list.2) (closed (node.Case list.0 (Some (e.0, f, last.0)))),
          last.1,
        )
    case_node_alike arms o _ u v is = absurd (apart marks_case _ _ _ _ refl refl is)

    node_alike : (y : Expr-F Knowing KnowingArm) (z : Expr-F Expr Arm) (u v : Spelling) → spell_at (bare y) ++ u ≡ spell_at z ++ v → AreAlike (bare y) z u v
    node_alike (node.Column t m) = column_alike t m
    node_alike (node.Integer n) = integer_alike n
    node_alike (node.Text t) = text_alike t
    node_alike node.CountRows = countrows_alike
    node_alike (node.Aggregate k a) = aggregate_alike k a
    node_alike (node.Minus a) = minus_alike a
    node_alike (node.Arithmetic k a c) = arithmetic_alike k a c
    node_alike (node.Compare k a c) = compare_alike k a c
    node_alike (node.Not a) = not_node_alike a
    node_alike (node.And a c) = and_node_alike a c
    node_alike (node.Or a c) = or_node_alike a c
    node_alike (node.IsNull k a) = isnull_alike k a
    node_alike (node.Between k a low high) = between_alike k a low high
    node_alike (node.In k a es) = in_node_alike k a es
    node_alike (node.Like k a t) = like_node_alike k a t
    node_alike (node.Coalesce es) = coalesce_alike es
    node_alike (node.Case arms o) = case_node_alike arms o

    spelled_out : (b : Expr) → spelled s b ≡ spell_at (out-Expr b)
    spelled_out b = search (rules, the_lemmas)

    out_again : (b : Expr) → roll-Expr (out-Expr b) ≡ b
    out_again b = search (rules, the_lemmas)

    abbrev Alike_at : Expr-F Expr Arm → Type 0
    Alike_at x = (z : Expr-F Expr Arm) (u v : Spelling) → spell_at x ++ u ≡ spell_at z ++ v → AreAlike x z u v

    abbrev Arm_at : Arm-F Expr Arm → Type 0
    Arm_at x = (b : Arm) (u v : Spelling) → spelled s x.condition ++ (spelled s x.value ++ u) ≡ spelled s b.condition ++ (spelled s b.value ++ v)
        → (R x.condition b.condition × R x.value b.value) × (u ≡ v)

    arm_alike : (y : Arm-F Knowing KnowingArm) (b : Arm) (u v : Spelling) → spelled s y.condition.0 ++ (spelled s y.value.0 ++ u) ≡ spelled s b.condition ++ (spelled s b.value ++ v)
        → (R y.condition.0 b.condition × R y.value.0 b.value) × (u ≡ v)
    arm_alike y b u v is =
        let first = y.condition.1 b.condition (spelled s y.value.0 ++ u) (spelled s b.value ++ v) is in
        let second = y.value.1 b.value u v first.1 in
        ((first.0, second.0), second.1)

    all_alike : (a : Expr) → Alike a
    all_alike = ind-Expr Alike AlikeArm
        (λ x y is b u v returned.
        let here = subst Alike_at is (node_alike y) (out-Expr b) u v
        (ap (λ (w : Spelling). w ++ u) (sym (fold-roll-Expr Spelling (Spelling × Spelling) (spell_node s) spell_arm x)) ∙ returned ∙ ap (λ (w : Spelling). w ++ v) (spelled_out b)) in
        (subst (λ (e : Expr). R (roll-Expr x) e) (out_again b) here.0, here.1))
        (λ x y is. subst Arm_at is (arm_alike y))

    -- trees that are spelled alike
    pub alike : (a b : Expr) → spelled s a ≡ spelled s b → R a b
    alike a b is = (all_alike a b [] [] (append-nil (spelled s a) ∙ is ∙ sym (append-nil (spelled s b)))).0
