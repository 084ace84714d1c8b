-- How many bytes the longest runs take, counted where one ends.
use Rattle.std.proofs.Common.{◌≡◌, ℕ, ◌+◌, ◌-◌, ◌*◌, ◌<◌, ◌≤◌, true, false, if◌then◌else◌, List, [], ◌∷◌, length, get_or, drop, refl, sym, ap, ◌∙◌, arith}
use Rattle.std.proofs.lemmas.List.{drop_more, drop_all}
use Rattle.meaning.specs.declared.value.ColType.{ColType}
use Rattle.meaning.specs.declared.value.ColType.TheVariants as of_type
use Rattle.meaning.specs.declared.value.Value.{Value}
use Rattle.meaning.specs.declared.value.Value.TheVariants.{Null}
use Rattle.meaning.specs.Order.{same_value}
use Rattle.encodings.specs.Slots.{value_size}
use Rattle.blocks.specs.Plain.{form_size}
use Rattle.blocks.specs.Runs.{run_heads}
use Rattle.encodings.proofs.Marks.{form_cons}

-- a length and a value for each run
abbrev pub runs_size : ColType → List Value → ℕ
runs_size col_type heads = 2 * length heads + form_size col_type heads

empty : (col_type : ColType) → form_size col_type [] ≡ 0
empty of_type.Int = refl
empty of_type.Text = refl

module _ (col_type : ColType) (cells : List Value) (row size more all : ℕ) (some : 0 < row) where
  abbrev before : Value
  before = get_or cells (row - 1) Null

  split : row ≤ length cells → drop (row - 1) cells ≡ before ∷ drop row cells
  split h =
      let next : row - 1 + 1 ≡ row = omega arith in
      drop_more cells (row - 1) Null (omega arith) ∙ ap (λ k. before ∷ drop k cells) next

  -- the row before this one ends a run where this one has another cell
  pub run_ends : row < length cells → more ≡ (if same_value before (get_or cells row Null) then 0 else 2 + value_size col_type before)
      → size + runs_size col_type (run_heads (drop (row - 1) cells)) ≡ all → size + more + runs_size col_type (run_heads (drop row cells)) ≡ all
  run_ends h returned known =
      let x = before in
      let y = get_or cells row Null in
      let ys = drop (row + 1) cells in
      let here : drop row cells ≡ y ∷ ys = drop_more cells row Null h in
      let both : drop (row - 1) cells ≡ x ∷ y ∷ ys = split (omega arith) ∙ ap (λ zs. x ∷ zs) here in
      let known_here : size + runs_size col_type (if same_value x y then run_heads (y ∷ ys) else x ∷ run_heads (y ∷ ys)) ≡ all = ap (λ zs. size + runs_size col_type (run_heads zs)) (sym both) ∙ known in
      let goal_here : size + more + runs_size col_type (run_heads (y ∷ ys)) ≡ all =
      elim (same_value x y) as (λ b. more ≡ (if b then 0 else 2 + value_size col_type x) → size + runs_size col_type (if b then run_heads (y ∷ ys) else x ∷ run_heads (y ∷ ys)) ≡ all → size + more + runs_size col_type (run_heads (y ∷ ys)) ≡ all) [
        | true ↦ λ m k. omega arith
        | false ↦ λ m k. (let e = form_cons col_type x (run_heads (y ∷ ys)) in omega arith)
      ] returned known_here in
      ap (λ zs. size + more + runs_size col_type (run_heads zs)) here ∙ goal_here

  -- the last row ends the last run
  pub last_run : row ≡ length cells → more ≡ 2 + value_size col_type before → size + runs_size col_type (run_heads (drop (row - 1) cells)) ≡ all → size + more ≡ all
  last_run h returned known =
      let x = before in
      let only : drop (row - 1) cells ≡ x ∷ [] = split (omega arith) ∙ ap (λ zs. x ∷ zs) (drop_all row cells (omega arith)) in
      let e = form_cons col_type x [] in
      let none : form_size col_type [] ≡ 0 = empty col_type in
      let k : size + runs_size col_type (x ∷ []) ≡ all = ap (λ zs. size + runs_size col_type (run_heads zs)) (sym only) ∙ known in
      omega arith
