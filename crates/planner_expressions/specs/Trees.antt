-- Nodes of a query's trees, and recursion that sees each part beside what it gives.
use Rattle.std.specs.Prelude.{Bool, List, [], ◌∷◌, ◌++◌, flat_map, if◌then◌else◌, Option, Some, None, unwrap_or, option_to_list}
use Rattle.sql_syntax.specs.declared.tree.Arm.{Arm}
use Rattle.sql_syntax.specs.declared.tree.Expr.{Expr}
use Rattle.sql_syntax.specs.declared.tree.Expr.TheOpen as node
use Rattle.sql_syntax.specs.declared.tree.Expr.TheOpen.{Expr-F}
use Rattle.sql_syntax.specs.declared.tree.Expr.TheFolds.{fold-Expr, map-Expr}
use Rattle.sql_syntax.specs.declared.tree.Expr.TheViews.{roll-Expr}

-- a node over parts of any kind; an arm is its condition and its value
abbrev pub Node : Type 0 → Type 0
Node X = Expr-F X (X × X)

-- the parts of a node, from left to right
abbrev pub parts_of : {X : Type 0} → Node X → List X
parts_of (node.Aggregate kind a) = a ∷ []
parts_of (node.Minus a) = a ∷ []
parts_of (node.Arithmetic op a b) = a ∷ b ∷ []
parts_of (node.Compare op a b) = a ∷ b ∷ []
parts_of (node.Not a) = a ∷ []
parts_of (node.And a b) = a ∷ b ∷ []
parts_of (node.Or a b) = a ∷ b ∷ []
parts_of (node.IsNull negated a) = a ∷ []
parts_of (node.Between negated a low high) = a ∷ low ∷ high ∷ []
parts_of (node.In negated a entries) = a ∷ entries
parts_of (node.Like negated a pattern) = a ∷ []
parts_of (node.Coalesce entries) = entries
parts_of (node.Case arms otherwise) = flat_map (λ arm. arm.0 ∷ arm.1 ∷ []) arms ++ option_to_list otherwise
parts_of (node.Column table name) = []
parts_of (node.Integer n) = []
parts_of (node.Text t) = []
parts_of node.CountRows = []

abbrev pub arm_tree : {X : Type 0} → (X → Expr) → X × X → Arm
arm_tree tree_of arm = record { condition = tree_of arm.0; value = tree_of arm.1 }

-- the tree of a node, from the trees of its parts
abbrev pub tree_over : {X : Type 0} → (X → Expr) → Node X → Expr
tree_over {X} t n = roll-Expr (map-Expr X (X × X) Expr Arm t (arm_tree t) n)

-- what a tree gives, by a step from its node over parts with what they give
abbrev pub over : {X : Type 0} → (Node (Expr × X) → X) → Expr → X
over {X} step e = (fold-Expr (Expr × X) ((Expr × X) × (Expr × X)) (λ n. (tree_over (λ p. p.0) n, step n)) (λ arm. (arm.condition, arm.value)) e).1

-- the tree of a node whose parts are known with their trees
abbrev pub tree_at : {X : Type 0} → Node (Expr × X) → Expr
tree_at n = tree_over (λ p. p.0) n

-- a node over what its parts give
abbrev pub gifts : {R : Type 0} → Node (Expr × R) → Node R
gifts {R} = map-Expr (Expr × R) ((Expr × R) × (Expr × R)) R (R × R) (λ p. p.1) (λ arm. (arm.0.1, arm.1.1))

-- what a tree gives, where some trees are given what they give: a tree that is given nothing is made from its parts
abbrev pub replaced : {R : Type 0} → (Expr → Option R) → (Node R → R) → Expr → R
replaced given make = over (λ n. unwrap_or (given (tree_at n)) (make (gifts n)))

-- the topmost parts of a tree that pass the test, from left to right
abbrev pub topmost : (Expr → Bool) → Expr → List Expr
topmost test = replaced (λ e. if test e then Some (e ∷ []) else None) (λ n. flat_map (λ part. part) (parts_of n))
