-- The kind of fewest bytes for rows of a column, from that for their cells.
use Rattle.std.proofs.Common.{◌≡◌, ℕ, true, List, Result, IfOk, sym, ap, subst, ◌∙◌}
use Rattle.std.proofs.lemmas.Result.{IfOk-weaker}
use Rattle.meaning.specs.declared.value.ColType.{ColType}
use Rattle.meaning.specs.declared.value.Value.{Value}
use Rattle.columns.specs.Column.{ColumnSpec}
use Rattle.encodings.specs.declared.choice.Choice.{Choice}
use Rattle.encodings.specs.Choosing.{between, cells_for, is_chosen}
use Rattle.encodings.specs.Choice.{IsMadeOf, IsBestOf, IsBestOfRows}

-- what was made of cells was made of them whatever they are called
pub made_turned : (choice : Choice) (cells same : List Value) → cells ≡ same → IsMadeOf cells choice.kind choice.dictionary → IsMadeOf same choice.kind choice.dictionary
made_turned choice cells same e made = subst (λ vs. IsMadeOf vs choice.kind choice.dictionary) e made

one_best : (column : ColumnSpec) (from to : ℕ) (known : ColType) (cells : List Value) (choice : Choice) → column.col_type ≡ known → cells_for column.col_type (between from to column) ≡ cells → IsBestOf known cells choice → IsBestOfRows column from to choice
one_best column from to known cells choice t e b =
    let values = between from to column in
    record {
      best = subst (λ u. is_chosen u column.nullable values choice.kind ≡ true) (sym t) (b.best column.nullable values (ap (λ u. cells_for u values) (sym t) ∙ e));
      made = made_turned choice cells _ (sym e) b.made;
    }

pub best_rows : {E : Type 0} (column : ColumnSpec) (from to : ℕ) (known : ColType) (cells : List Value) (chosen : Result Choice E) → column.col_type ≡ known → cells_for column.col_type (between from to column) ≡ cells → IfOk chosen (IsBestOf known cells) → IfOk chosen (IsBestOfRows column from to)
best_rows column from to known cells chosen t e b = IfOk-weaker chosen (IsBestOf known cells) (IsBestOfRows column from to) (λ choice. one_best column from to known cells choice t e) b
