-- A condition that stands on a block.
use Rattle.std.specs.Prelude.{◌≡◌, ℕ, ◌<◌, Bool, true, false, List, get_or}
use Rattle.meaning.specs.declared.expr.Expr.{Expr}
use Rattle.meaning.specs.declared.value.Value.TheVariants.{Null}
use Rattle.meaning.specs.Typing.{RowTypes}
use Rattle.blocks.specs.Block.{Block, values_of}
use Rattle.pushdown.specs.FactColumn.{StandsOn}
use Rattle.block_predicates.specs.declared.marks.EntryMarks.{EntryMarks}
use Rattle.block_predicates.specs.declared.predicate.Marks.{Marks}
use Rattle.block_predicates.specs.declared.predicate.Marks.TheVariants as marks
use Rattle.block_predicates.specs.Entries.{has_entries, lane_count}
use Rattle.block_predicates.specs.Marks.{IsMarkOf, IsTypedOn, kept_of}

-- the block, the column of the fact that it is of, how many lanes were evaluated, and which of the block's
-- rows are kept
pub record PredicateSpec : Type 0 where
  pub block : Block
  pub column : ℕ
  pub count : ℕ
  pub kept : List Bool

-- of a block those rows are kept at which the condition is TRUE: on each joined row whose column has the value that the
-- block has at the row
pub record IsPredicateOf (e : Expr) (b : Block) (p : PredicateSpec) : Type 0 where
  pub block : p.block ≡ b
  pub stands : StandsOn p.column e
  pub entries : has_entries b.kind ≡ true
  pub counted : p.count ≡ lane_count b
  pub kept : (types : RowTypes) → IsTypedOn types e p.column b → (row : ℕ) → row < b.rows
      → IsMarkOf e p.column (get_or (values_of b) row Null) (get_or p.kept row false)

-- ---- as it is held

abbrev pub marks_in : Marks → EntryMarks
marks_in (marks.Owned m) = m
marks_in (marks.Lent m) = m.now

-- the marks over the block
abbrev pub predicate_of : Block → EntryMarks → PredicateSpec
predicate_of b m = record { block = b; column = m.column; count = m.count; kept = kept_of b m }
