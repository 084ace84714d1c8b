-- Proofs of the goals of `sets_unite` (`laws`).
use Rattle.meaning.proofs.Orders.{row_total, row_exact, value_total, value_exact}
use Rattle.std.proofs.Common.{refl}
use Rattle.meaning.proofs.Unions.{union-comm, union-assoc, union_none, set-append}
use Rattle.meaning_laws.proofs.laws.sets_unite.Goals as goal

pub returns-clause-rows : goal.returns-clause-rows
returns-clause-rows c = record {
  commutes = union-comm row_total row_exact;
  associates =
      union-assoc row_total row_exact;
  neutral = λ xs. (refl, union_none row_total row_exact xs);
  together =
      set-append row_total row_exact;
}

pub returns-clause-values : goal.returns-clause-values
returns-clause-values c = record {
  commutes = union-comm value_total value_exact;
  associates =
      union-assoc value_total value_exact;
  neutral = λ xs. (refl, union_none value_total value_exact xs);
  together =
      set-append value_total value_exact;
}
