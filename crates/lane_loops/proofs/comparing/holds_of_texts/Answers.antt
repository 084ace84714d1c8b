-- Proofs of the goals of `holds_of_texts` (`comparing`).
use Rattle.std.proofs.Common.{rules, ◌≡◌, not, refl, ap, sym, ◌∙◌}
use Rattle.std.specs.Prelude.{bytes_eq}
use Rattle.std.specs.declared.cmp.Ordering.{Ordering}
use Rattle.std.specs.declared.cmp.Ordering.TheVariants.{Less, Equal, Greater}
use Rattle.std.specs.Ordering.{nat_cmp, is_eq, is_ne}
use Rattle.std.specs.Cmp.Lexicographic.{slice_cmp}
use Rattle.std.proofs.lemmas.Map.Text.{is_eq-slice_cmp}
use Rattle.meaning.specs.declared.expr.ComparisonOperator.{ComparisonOperator}
use Rattle.meaning.specs.Operators.{test}
use Rattle.lane_loops.proofs.comparing.holds_of_texts.Goals as goal

not_equal : (order : Ordering) → not (is_eq order) ≡ is_ne order
not_equal Less = refl
not_equal Equal = refl
not_equal Greater = refl

pub returns-in-Equal : goal.returns-in-Equal
returns-in-Equal c =
    let left = c.args.left.now in
    let right = c.args.right.now in
    let eq : c.eq.result ≡ bytes_eq left right = search rules in
    eq ∙ sym (is_eq-slice_cmp left right) ∙ ap (λ (op : ComparisonOperator). test op (slice_cmp nat_cmp left right)) (sym c.in-Equal.is)

pub returns-in-NotEqual : goal.returns-in-NotEqual
returns-in-NotEqual c =
    let left = c.args.left.now in
    let right = c.args.right.now in
    let ne : c.ne.result ≡ not (bytes_eq left right) = search rules in
    ne ∙ ap not (sym (is_eq-slice_cmp left right)) ∙ not_equal (slice_cmp nat_cmp left right) ∙ ap (λ (op : ComparisonOperator). test op (slice_cmp nat_cmp left right)) (sym c.in-NotEqual.is)
