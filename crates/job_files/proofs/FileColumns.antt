-- The columns of a file that a plan uses.
use Rattle.std.proofs.Common.{◌≡◌, ℕ, zero, suc, ◌<◌, true, List, [], ◌∷◌, map, length, Some, ap, arith}
use Rattle.std.specs.Prelude.{All, slice_get}
use Rattle.std.specs.List.{AllByRecursion, list_all}
use Rattle.std.proofs.lemmas.Bool.{and_parts}
use Rattle.std.proofs.lemmas.List.Elements.{All-from_recursion}
use Rattle.meaning.specs.declared.catalog.Column.{Column}
use Rattle.meaning.specs.declared.plan.ColumnUse.{ColumnUse}
use Rattle.meaning.specs.declared.plan.TableUse.{TableUse}
use Rattle.meaning.specs.Typing.{same_type}
use Rattle.meaning.specs.SoundPlan.{used_columns}
use Rattle.meaning.proofs.Typed.{same_kind}
use Rattle.wire.specs.Reading.{same_bytes}
use Rattle.fragment_file.specs.declared.header.Header.{Header}
use Rattle.job_files.specs.Files.{HasColumns, is_column}

pub column_there : (u : ColumnUse) (cs : List Column) (i : ℕ) → is_column u (slice_get cs i) ≡ true → (i < length cs) × (slice_get (map (λ c. c.col_type) cs) i ≡ Some u.col_type)
column_there u [] i e = absurd cc
column_there u (c ∷ cs) zero e = (omega arith, ap Some (same_kind c.col_type u.col_type (and_parts (same_bytes c.name u.name) (same_type c.col_type u.col_type) e).1))
column_there u (c ∷ cs) (suc i) e = let rest = column_there u cs i e in let h = rest.0 in (omega (arith, h), rest.1)

module _ (cs : List Column) where
  pub uses_typed : (us : List ColumnUse) → list_all (λ u. is_column u (slice_get cs u.column)) us ≡ true → AllByRecursion (λ u. slice_get (map (λ c. c.col_type) cs) u.column ≡ Some u.col_type) us
  uses_typed [] e = tt
  uses_typed (u ∷ us) e =
      let h = and_parts (is_column u (slice_get cs u.column)) (list_all (λ u. is_column u (slice_get cs u.column)) us) e in
      ((column_there u cs u.column h.0).1, uses_typed us h.1)

  pub uses_within : (us : List ColumnUse) → list_all (λ u. is_column u (slice_get cs u.column)) us ≡ true → AllByRecursion (λ p. p < length cs) (map (λ u. u.column) us)
  uses_within [] e = tt
  uses_within (u ∷ us) e =
      let h = and_parts (is_column u (slice_get cs u.column)) (list_all (λ u. is_column u (slice_get cs u.column)) us) e in
      ((column_there u cs u.column h.0).0, uses_within us h.1)

pub columns_within : (table : TableUse) (h : Header) → HasColumns table h → All (λ p. p < length h.columns) (used_columns table)
columns_within table h has = All-from_recursion (λ p. p < length h.columns) (used_columns table) (uses_within h.columns table.columns has)
