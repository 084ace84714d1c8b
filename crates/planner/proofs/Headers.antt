-- The header that is defined is the item's.
use Rattle.std.proofs.Common.{rules, ◌≡◌, ◌≢◌, ℕ, ◌+◌, List, ◌++◌, Option, Some, None, unwrap_or, codes, decimal, refl, ap, sym, ◌∙◌}
use Rattle.sql_syntax.specs.declared.tree.Arm.{Arm}
use Rattle.sql_syntax.specs.declared.tree.Expr.{Expr}
use Rattle.sql_syntax.specs.declared.tree.Expr.TheOpen as node
use Rattle.sql_syntax.specs.declared.tree.Expr.TheOpen.{Expr-F}
use Rattle.sql_syntax.specs.declared.tree.Expr.TheFolds.{the_lemmas}
use Rattle.sql_syntax.specs.declared.tree.Expr.TheVariants as tree
use Rattle.sql_syntax.specs.declared.tree.Expr.TheViews.{roll-Expr, out-Expr}
use Rattle.sql_syntax.specs.declared.tree.Item.{Item}
use Rattle.planner.specs.PlanOf.{IsHeaderOf}
use Rattle.planner_clauses.specs.Shown.{column_name, header, name_behind, node_name}

out_of_column : (table : Option (List ℕ)) (name : List ℕ) → column_name (tree.Column table name) ≡ Some name
out_of_column table name = search (rules, the_lemmas)

rolls_out : (e : Expr) → roll-Expr (out-Expr e) ≡ e
rolls_out e = search (rules, the_lemmas)

column_rolled : (table : Option (List ℕ)) (name : List ℕ) → roll-Expr (node.Column table name) ≡ tree.Column table name
column_rolled table name = search (rules, the_lemmas)

no_name_at : (x : Expr-F Expr Arm) → ((table : Option (List ℕ)) (name : List ℕ) → roll-Expr x ≢ tree.Column table name) → node_name x ≡ None
no_name_at (node.Column table name) none = absurd (none table name (column_rolled table name))
no_name_at _ none = refl

no_name : (e : Expr) → ((table : Option (List ℕ)) (name : List ℕ) → e ≢ tree.Column table name) → column_name e ≡ None
no_name e none = no_name_at (out-Expr e) (λ table name is. none table name (sym (rolls_out e) ∙ is))

pub headed : (n : ℕ) (i : Item) → IsHeaderOf (n + 1) (header (n, i)) i
headed n i = record {
  named = λ alias is. ap (λ (o : Option (List ℕ)). unwrap_or (name_behind o (column_name i.expr)) (codes "c" ++ decimal (n + 1))) is;
  column = λ table name none is.
      ap (λ (o : Option (List ℕ)). unwrap_or (name_behind o (column_name i.expr)) (codes "c" ++ decimal (n + 1))) none
      ∙ ap (λ (e : Expr). unwrap_or (column_name e) (codes "c" ++ decimal (n + 1))) is
      ∙ ap (λ (o : Option (List ℕ)). unwrap_or o (codes "c" ++ decimal (n + 1))) (out_of_column table name);
  other = λ none no_column.
      ap (λ (o : Option (List ℕ)). unwrap_or (name_behind o (column_name i.expr)) (codes "c" ++ decimal (n + 1))) none
      ∙ ap (λ (o : Option (List ℕ)). unwrap_or o (codes "c" ++ decimal (n + 1))) (no_name i.expr no_column);
}
