-- Loop invariants of `is_key_of` (`checks`).
use Rattle.std.proofs.Common.{◌≡◌, drop}
use Rattle.std.specs.Cmp.Lexicographic.{pointwise}
use Rattle.meaning.specs.Typing.{is_of_type}
use Rattle.answer_layouts.proofs.checks.is_key_of.Given as goal

abbrev pub invariant-loop-i : goal.invariant-loop-i
invariant-loop-i l =
    pointwise (λ k v. is_of_type k.col_type v) l.keys l.values ≡ pointwise (λ k v. is_of_type k.col_type v) (drop l.i l.keys) (drop l.i l.values)
