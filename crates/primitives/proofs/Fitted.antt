-- What fits a node's parts, where the node fits.
use Rattle.std.specs.Prelude.{◌≡◌, ◌⊎◌, ℕ, Bool, true, false, ◌&&◌, ◌||◌, List, [], ◌∷◌, ◌++◌, map, All}
use Rattle.std.specs.List.{list_all, AllByRecursion}
use Rattle.std.proofs.Common.{rules, refl, sym, ◌∙◌, subst, inl, inr}
use Rattle.std.proofs.lemmas.List.Elements.{All-from_recursion, recursion_from_All}
use Rattle.meaning.specs.declared.value.ColType.{ColType}
use Rattle.meaning.specs.declared.value.ColType.TheVariants as of_type
use Rattle.meaning.specs.declared.expr.ArithmeticOperator.{ArithmeticOperator}
use Rattle.meaning.specs.declared.expr.ComparisonOperator.{ComparisonOperator}
use Rattle.meaning.specs.declared.expr.Arm.{Arm}
use Rattle.meaning.specs.declared.expr.Expr.{Expr}
use Rattle.meaning.specs.declared.expr.Expr.TheVariants as node
use Rattle.meaning.specs.declared.expr.Expr.TheFolds.{the_lemmas}
use Rattle.meaning.specs.References.{Reference, columns_used, columns_used_in_arm, all_references}
use Rattle.meaning.specs.Typing.{ExprType, Valued, Boolean, RowTypes, is_integer, is_boolean, is_valued, are_alike, has_type, arm_types, Typing}
use Rattle.meaning.proofs.ColumnsUsed.{first_part, second_part}
use Rattle.meaning.proofs.Tests.{first_of, second_of}
use Rattle.vectors.specs.declared.batch.BatchColumn.{BatchColumn}
use Rattle.primitives.specs.Fitting.{Fits, has_column}
use Rattle.primitives.specs.Nodes.{FitsArm}

module _ (types : RowTypes) (columns : List BatchColumn) where
  abbrev AreThere : List Reference → Type 0
  AreThere us = AllByRecursion (λ u. has_column columns u ≡ true) us

  there : (e : Expr) (type : ExprType) → Fits types columns e type → AreThere (columns_used e)
  there e type fits = recursion_from_All (λ u. has_column columns u ≡ true) (columns_used e) fits.present

  made : (e : Expr) (type : ExprType) → has_type types e type ≡ true → AreThere (columns_used e) → Fits types columns e type
  made e type typed present = record { typed = typed; present = All-from_recursion (λ u. has_column columns u ≡ true) (columns_used e) present }

  -- two parts
  two : (a b e : Expr) (ta tb type : ExprType) → Fits types columns e type → columns_used e ≡ columns_used a ++ columns_used b
      → has_type types a ta ≡ true → has_type types b tb ≡ true → Fits types columns a ta × Fits types columns b tb
  two a b e ta tb type fits used is_a is_b =
      let both = subst AreThere used (there e type fits) in (
        made a ta is_a (first_part (λ u. has_column columns u ≡ true) (columns_used a) (columns_used b) both),
        made b tb is_b (second_part (λ u. has_column columns u ≡ true) (columns_used a) (columns_used b) both),
      )

  one : (a e : Expr) (ta type : ExprType) → Fits types columns e type → columns_used e ≡ columns_used a → has_type types a ta ≡ true → Fits types columns a ta
  one a e ta type fits used is = made a ta is (subst AreThere used (there e type fits))

  or_cases : (a b : Bool) → (a || b) ≡ true → (a ≡ true) ⊎ (b ≡ true)
  or_cases true b h = inl refl
  or_cases false b h = inr h

  -- ---- nodes

  has-Minus : (a : Expr) (type : ExprType) → has_type types (node.Minus a) type ≡ (is_integer type && has_type types a (Valued of_type.Int))
  has-Minus a type = search (rules, the_lemmas)

  used-Minus : (a : Expr) → columns_used (node.Minus a) ≡ columns_used a
  used-Minus a = search (rules, the_lemmas)

  pub fits_minus : (a : Expr) (type : ExprType) → Fits types columns (node.Minus a) type → (is_integer type ≡ true) × Fits types columns a (Valued of_type.Int)
  fits_minus a type fits =
      let h = sym (has-Minus a type) ∙ fits.typed in
      (first_of (is_integer type) _ h, one a (node.Minus a) (Valued of_type.Int) type fits (used-Minus a) (second_of (is_integer type) _ h))

  has-Arithmetic : (op : ArithmeticOperator) (a b : Expr) (type : ExprType) → has_type types (node.Arithmetic op a b) type
      ≡ (is_integer type && (has_type types a (Valued of_type.Int) && has_type types b (Valued of_type.Int)))
  has-Arithmetic op a b type = search (rules, the_lemmas)

  used-Arithmetic : (op : ArithmeticOperator) (a b : Expr) → columns_used (node.Arithmetic op a b) ≡ columns_used a ++ columns_used b
  used-Arithmetic op a b = search (rules, the_lemmas)

  pub fits_arithmetic : (op : ArithmeticOperator) (a b : Expr) (type : ExprType) → Fits types columns (node.Arithmetic op a b) type
      → (is_integer type ≡ true) × (Fits types columns a (Valued of_type.Int) × Fits types columns b (Valued of_type.Int))
  fits_arithmetic op a b type fits =
      let h = sym (has-Arithmetic op a b type) ∙ fits.typed in
      let parts = second_of (is_integer type) _ h in (
        first_of (is_integer type) _ h,
        two a b (node.Arithmetic op a b) (Valued of_type.Int) (Valued of_type.Int) type fits (used-Arithmetic op a b)
            (first_of (has_type types a (Valued of_type.Int)) _ parts) (second_of (has_type types a (Valued of_type.Int)) _ parts),
      )

  has-Compare : (op : ComparisonOperator) (a b : Expr) (type : ExprType) → has_type types (node.Compare op a b) type
      ≡ (is_boolean type && are_alike (has_type types a ∷ has_type types b ∷ []))
  has-Compare op a b type = search (rules, the_lemmas)

  used-Compare : (op : ComparisonOperator) (a b : Expr) → columns_used (node.Compare op a b) ≡ columns_used a ++ columns_used b
  used-Compare op a b = search (rules, the_lemmas)

  -- one type of values for all
  alike : (parts : List Typing) → are_alike parts ≡ true → (kind : ColType) × (list_all (λ part. part (Valued kind)) parts ≡ true)
  alike parts h = elim (or_cases _ _ h) [ inl ints ↦ (of_type.Int, ints) | inr texts ↦ (of_type.Text, texts) ]

  pub fits_compare : (op : ComparisonOperator) (a b : Expr) (type : ExprType) → Fits types columns (node.Compare op a b) type
      → (is_boolean type ≡ true) × ((kind : ColType) × (Fits types columns a (Valued kind) × Fits types columns b (Valued kind)))
  fits_compare op a b type fits =
      let h = sym (has-Compare op a b type) ∙ fits.typed in
      let k = alike (has_type types a ∷ has_type types b ∷ []) (second_of (is_boolean type) _ h) in
      let of_b = second_of (has_type types a (Valued k.0)) _ k.1 in (
        first_of (is_boolean type) _ h,
        (
          k.0,
          two a b (node.Compare op a b) (Valued k.0) (Valued k.0) type fits (used-Compare op a b)
              (first_of (has_type types a (Valued k.0)) _ k.1) (first_of (has_type types b (Valued k.0)) _ of_b),
        ),
      )

  has-Not : (a : Expr) (type : ExprType) → has_type types (node.Not a) type ≡ (is_boolean type && has_type types a Boolean)
  has-Not a type = search (rules, the_lemmas)

  used-Not : (a : Expr) → columns_used (node.Not a) ≡ columns_used a
  used-Not a = search (rules, the_lemmas)

  pub fits_not : (a : Expr) (type : ExprType) → Fits types columns (node.Not a) type → (is_boolean type ≡ true) × Fits types columns a Boolean
  fits_not a type fits =
      let h = sym (has-Not a type) ∙ fits.typed in
      (first_of (is_boolean type) _ h, one a (node.Not a) Boolean type fits (used-Not a) (second_of (is_boolean type) _ h))

  has-And : (a b : Expr) (type : ExprType) → has_type types (node.And a b) type ≡ (is_boolean type && (has_type types a Boolean && has_type types b Boolean))
  has-And a b type = search (rules, the_lemmas)

  used-And : (a b : Expr) → columns_used (node.And a b) ≡ columns_used a ++ columns_used b
  used-And a b = search (rules, the_lemmas)

  pub fits_and : (a b : Expr) (type : ExprType) → Fits types columns (node.And a b) type
      → (is_boolean type ≡ true) × (Fits types columns a Boolean × Fits types columns b Boolean)
  fits_and a b type fits =
      let h = sym (has-And a b type) ∙ fits.typed in
      let parts = second_of (is_boolean type) _ h in (
        first_of (is_boolean type) _ h,
        two a b (node.And a b) Boolean Boolean type fits (used-And a b)
            (first_of (has_type types a Boolean) _ parts) (second_of (has_type types a Boolean) _ parts),
      )

  has-Or : (a b : Expr) (type : ExprType) → has_type types (node.Or a b) type ≡ (is_boolean type && (has_type types a Boolean && has_type types b Boolean))
  has-Or a b type = search (rules, the_lemmas)

  used-Or : (a b : Expr) → columns_used (node.Or a b) ≡ columns_used a ++ columns_used b
  used-Or a b = search (rules, the_lemmas)

  pub fits_or : (a b : Expr) (type : ExprType) → Fits types columns (node.Or a b) type
      → (is_boolean type ≡ true) × (Fits types columns a Boolean × Fits types columns b Boolean)
  fits_or a b type fits =
      let h = sym (has-Or a b type) ∙ fits.typed in
      let parts = second_of (is_boolean type) _ h in (
        first_of (is_boolean type) _ h,
        two a b (node.Or a b) Boolean Boolean type fits (used-Or a b)
            (first_of (has_type types a Boolean) _ parts) (second_of (has_type types a Boolean) _ parts),
      )

  has-IsNull : (n : Bool) (x : Expr) (type : ExprType) → has_type types (node.IsNull n x) type ≡ (is_boolean type && are_alike (has_type types x ∷ []))
  has-IsNull n x type = search (rules, the_lemmas)

  used-IsNull : (n : Bool) (x : Expr) → columns_used (node.IsNull n x) ≡ columns_used x
  used-IsNull n x = search (rules, the_lemmas)

  pub fits_is_null : (n : Bool) (x : Expr) (type : ExprType) → Fits types columns (node.IsNull n x) type
      → (is_boolean type ≡ true) × ((kind : ColType) × Fits types columns x (Valued kind))
  fits_is_null n x type fits =
      let h = sym (has-IsNull n x type) ∙ fits.typed in
      let k = alike (has_type types x ∷ []) (second_of (is_boolean type) _ h) in
      (first_of (is_boolean type) _ h, (k.0, one x (node.IsNull n x) (Valued k.0) type fits (used-IsNull n x) (first_of (has_type types x (Valued k.0)) _ k.1)))

  has-Like : (n : Bool) (x : Expr) (pattern : List ℕ) (type : ExprType) → has_type types (node.Like n x pattern) type ≡ (is_boolean type && has_type types x (Valued of_type.Text))
  has-Like n x pattern type = search (rules, the_lemmas)

  used-Like : (n : Bool) (x : Expr) (pattern : List ℕ) → columns_used (node.Like n x pattern) ≡ columns_used x
  used-Like n x pattern = search (rules, the_lemmas)

  pub fits_like : (n : Bool) (x : Expr) (pattern : List ℕ) (type : ExprType) → Fits types columns (node.Like n x pattern) type
      → (is_boolean type ≡ true) × Fits types columns x (Valued of_type.Text)
  fits_like n x pattern type fits =
      let h = sym (has-Like n x pattern type) ∙ fits.typed in
      (first_of (is_boolean type) _ h, one x (node.Like n x pattern) (Valued of_type.Text) type fits (used-Like n x pattern) (second_of (is_boolean type) _ h))

  has-Between : (n : Bool) (x low high : Expr) (type : ExprType) → has_type types (node.Between n x low high) type
      ≡ (is_boolean type && are_alike (has_type types x ∷ has_type types low ∷ has_type types high ∷ []))
  has-Between n x low high type = search (rules, the_lemmas)

  used-Between : (n : Bool) (x low high : Expr) → columns_used (node.Between n x low high) ≡ columns_used x ++ (columns_used low ++ columns_used high)
  used-Between n x low high = search (rules, the_lemmas)

  pub fits_between : (n : Bool) (x low high : Expr) (type : ExprType) → Fits types columns (node.Between n x low high) type
      → (is_boolean type ≡ true) × ((kind : ColType) × (Fits types columns x (Valued kind) × Fits types columns low (Valued kind) × Fits types columns high (Valued kind)))
  fits_between n x low high type fits =
      let h = sym (has-Between n x low high type) ∙ fits.typed in
      let k = alike (has_type types x ∷ has_type types low ∷ has_type types high ∷ []) (second_of (is_boolean type) _ h) in
      let P : Reference → Type 0 = λ u. has_column columns u ≡ true in
      let all = subst AreThere (used-Between n x low high) (there (node.Between n x low high) type fits) in
      let bounds = second_part P (columns_used x) (columns_used low ++ columns_used high) all in
      let behind = second_of (has_type types x (Valued k.0)) _ k.1 in
      let last = second_of (has_type types low (Valued k.0)) _ behind in (
        first_of (is_boolean type) _ h,
        (
          k.0,
          (
            made x (Valued k.0) (first_of (has_type types x (Valued k.0)) _ k.1) (first_part P (columns_used x) _ all),
            made low (Valued k.0) (first_of (has_type types low (Valued k.0)) _ behind) (first_part P (columns_used low) (columns_used high) bounds),
            made high (Valued k.0) (first_of (has_type types high (Valued k.0)) _ last) (second_part P (columns_used low) (columns_used high) bounds),
          ),
        ),
      )

  -- ---- lists

  abbrev FitsAll : ColType → List Expr → Type 0
  FitsAll kind es = AllByRecursion (λ e. Fits types columns e (Valued kind)) es

  each_fits : (kind : ColType) (es : List Expr) → list_all (λ part. part (Valued kind)) (map (has_type types) es) ≡ true
      → AreThere (all_references (map columns_used es)) → FitsAll kind es
  each_fits kind [] typed present = tt
  each_fits kind (e ∷ es) typed present =
      let P : Reference → Type 0 = λ u. has_column columns u ≡ true in (
        made e (Valued kind) (first_of (has_type types e (Valued kind)) _ typed) (first_part P (columns_used e) (all_references (map columns_used es)) present),
        each_fits kind es (second_of (has_type types e (Valued kind)) _ typed) (second_part P (columns_used e) (all_references (map columns_used es)) present),
      )

  has-In : (n : Bool) (x : Expr) (list : List Expr) (type : ExprType) → has_type types (node.In n x list) type ≡ (is_boolean type && are_alike (has_type types x ∷ map (has_type types) list))
  has-In n x list type = search (rules, the_lemmas)

  used-In : (n : Bool) (x : Expr) (list : List Expr) → columns_used (node.In n x list) ≡ columns_used x ++ all_references (map columns_used list)
  used-In n x list = search (rules, the_lemmas)

  pub fits_in : (n : Bool) (x : Expr) (list : List Expr) (type : ExprType) → Fits types columns (node.In n x list) type
      → (is_boolean type ≡ true) × ((kind : ColType) × (Fits types columns x (Valued kind) × All (λ e. Fits types columns e (Valued kind)) list))
  fits_in n x list type fits =
      let h = sym (has-In n x list type) ∙ fits.typed in
      let k = alike (has_type types x ∷ map (has_type types) list) (second_of (is_boolean type) _ h) in
      let P : Reference → Type 0 = λ u. has_column columns u ≡ true in
      let all = subst AreThere (used-In n x list) (there (node.In n x list) type fits) in (
        first_of (is_boolean type) _ h,
        (
          k.0,
          (
            made x (Valued k.0) (first_of (has_type types x (Valued k.0)) _ k.1) (first_part P (columns_used x) _ all),
            All-from_recursion (λ e. Fits types columns e (Valued k.0)) list
                (each_fits k.0 list (second_of (has_type types x (Valued k.0)) _ k.1) (second_part P (columns_used x) _ all)),
          ),
        ),
      )

  has-Coalesce : (list : List Expr) (type : ExprType) → has_type types (node.Coalesce list) type ≡ (is_valued type && list_all (λ part. part type) (map (has_type types) list))
  has-Coalesce list type = search (rules, the_lemmas)

  used-Coalesce : (list : List Expr) → columns_used (node.Coalesce list) ≡ all_references (map columns_used list)
  used-Coalesce list = search (rules, the_lemmas)

  valued : (type : ExprType) → is_valued type ≡ true → (kind : ColType) × (type ≡ Valued kind)
  valued (Valued kind) h = (kind, refl)
  valued Boolean h = absurd cc

  pub fits_coalesce : (list : List Expr) (type : ExprType) → Fits types columns (node.Coalesce list) type
      → (kind : ColType) × ((type ≡ Valued kind) × All (λ e. Fits types columns e (Valued kind)) list)
  fits_coalesce list type fits =
      let h = sym (has-Coalesce list type) ∙ fits.typed in
      let k = valued type (first_of (is_valued type) _ h) in
      let typed = subst (λ (t : ExprType). list_all (λ part. part t) (map (has_type types) list) ≡ true) k.1 (second_of (is_valued type) _ h) in (
        k.0,
        (
          k.1,
          All-from_recursion (λ e. Fits types columns e (Valued k.0)) list
              (each_fits k.0 list typed (subst AreThere (used-Coalesce list) (there (node.Coalesce list) type fits))),
        ),
      )

  -- ---- arms

  arm_types-record : (a b : Expr) → arm_types types (record { when = a; then = b }) ≡ (has_type types a, has_type types b)
  arm_types-record a b = search (rules, the_lemmas)

  arm_used-record : (a b : Expr) → columns_used_in_arm (record { when = a; then = b }) ≡ columns_used a ++ columns_used b
  arm_used-record a b = search (rules, the_lemmas)

  has-Case : (arms : List Arm) (otherwise : Expr) (type : ExprType) → has_type types (node.Case arms otherwise) type
      ≡ (is_valued type && (list_all (λ arm. arm.0 Boolean && arm.1 type) (map (arm_types types) arms) && has_type types otherwise type))
  has-Case arms otherwise type = search (rules, the_lemmas)

  used-Case : (arms : List Arm) (otherwise : Expr) → columns_used (node.Case arms otherwise) ≡ all_references (map columns_used_in_arm arms) ++ columns_used otherwise
  used-Case arms otherwise = search (rules, the_lemmas)

  arm_fits : (kind : ColType) (arm : Arm) → ((arm_types types arm).0 Boolean && (arm_types types arm).1 (Valued kind)) ≡ true → AreThere (columns_used_in_arm arm) → FitsArm types columns kind arm
  arm_fits kind arm typed present =
      let P : Reference → Type 0 = λ u. has_column columns u ≡ true in
      let t = subst (λ (ts : Typing × Typing). (ts.0 Boolean && ts.1 (Valued kind)) ≡ true) (arm_types-record arm.when arm.then) typed in
      let us = subst AreThere (arm_used-record arm.when arm.then) present in
      record {
        condition = made arm.when Boolean (first_of (has_type types arm.when Boolean) _ t) (first_part P (columns_used arm.when) (columns_used arm.then) us);
        value = made arm.then (Valued kind) (second_of (has_type types arm.when Boolean) _ t) (second_part P (columns_used arm.when) (columns_used arm.then) us);
      }

  each_arm_fits : (kind : ColType) (arms : List Arm) → list_all (λ (arm : Typing × Typing). arm.0 Boolean && arm.1 (Valued kind)) (map (arm_types types) arms) ≡ true
      → AreThere (all_references (map columns_used_in_arm arms)) → AllByRecursion (FitsArm types columns kind) arms
  each_arm_fits kind [] typed present = tt
  each_arm_fits kind (arm ∷ arms) typed present =
      let P : Reference → Type 0 = λ u. has_column columns u ≡ true in
      let here = (arm_types types arm).0 Boolean && (arm_types types arm).1 (Valued kind) in (
        arm_fits kind arm (first_of here _ typed) (first_part P (columns_used_in_arm arm) (all_references (map columns_used_in_arm arms)) present),
        each_arm_fits kind arms (second_of here _ typed) (second_part P (columns_used_in_arm arm) (all_references (map columns_used_in_arm arms)) present),
      )

  pub fits_case : (arms : List Arm) (otherwise : Expr) (type : ExprType) → Fits types columns (node.Case arms otherwise) type
      → (kind : ColType) × ((type ≡ Valued kind) × (All (FitsArm types columns kind) arms × Fits types columns otherwise (Valued kind)))
  fits_case arms otherwise type fits =
      let h = sym (has-Case arms otherwise type) ∙ fits.typed in
      let k = valued type (first_of (is_valued type) _ h) in
      let typed = subst (λ (t : ExprType). (list_all (λ arm. arm.0 Boolean && arm.1 t) (map (arm_types types) arms) && has_type types otherwise t) ≡ true) k.1 (second_of (is_valued type) _ h) in
      let of_arms = list_all (λ (arm : Typing × Typing). arm.0 Boolean && arm.1 (Valued k.0)) (map (arm_types types) arms) in
      let P : Reference → Type 0 = λ u. has_column columns u ≡ true in
      let us = subst AreThere (used-Case arms otherwise) (there (node.Case arms otherwise) type fits) in (
        k.0,
        (
          k.1,
          (
            All-from_recursion (FitsArm types columns k.0) arms (each_arm_fits k.0 arms (first_of of_arms _ typed) (first_part P (all_references (map columns_used_in_arm arms)) (columns_used otherwise) us)),
            made otherwise (Valued k.0) (second_of of_arms _ typed) (second_part P (all_references (map columns_used_in_arm arms)) (columns_used otherwise) us),
          ),
        ),
      )
