-- Conditions that have marks of a row group's blocks.
use Rattle.std.proofs.Common.{◌≡◌, ℕ, zero, suc, ◌+◌, ◌<◌, ◌≤◌, inl, Bool, true, false, ◌&&◌, List, [], ◌∷◌, ◌++◌, filter, get_or, length, Option, Some, None, refl, ap, sym, subst, ◌∙◌, arith}
use Rattle.std.specs.Prelude.{All}
use Rattle.std.specs.List.{AllByRecursion, AllZip}
use Rattle.std.proofs.lemmas.List.{get_or-map}
use Rattle.std.proofs.lemmas.List.Elements.{recursion_from_All}
use Rattle.meaning.specs.declared.expr.Expr.{Expr}
use Rattle.meaning.specs.declared.joined_row.JoinedRow.{JoinedRow}
use Rattle.meaning.specs.declared.value.Value.TheVariants.{Null}
use Rattle.meaning.specs.Expr.{eval}
use Rattle.meaning.specs.Order.{Row, column}
use Rattle.meaning.specs.Typing.{RowTypes}
use Rattle.meaning.proofs.Tests.{first_of}
use Rattle.blocks.specs.Block.{Block, values_of}
use Rattle.fragment_file.specs.Fragment.{no_block}
use Rattle.fragment_file.specs.View.{rows_of}
use Rattle.pushdown.specs.FactColumn.{StandsOn}
use Rattle.pushdown.proofs.Faultless.{faultless}
use Rattle.pushdown.proofs.NamedColumn.{stands_named}
use Rattle.vectors.specs.Selection.{is_among}
use Rattle.vectors.proofs.Ascending.{among_filter}
use Rattle.vector_operators.specs.Evaluated.{Held}
use Rattle.vector_operators.specs.Given.{is_true_lane}
use Rattle.vector_operators.proofs.Among.{within_among}
use Rattle.primitives.specs.Meant.{meant_at, row_at}
use Rattle.primitives.specs.Narrowed.{Narrows}
use Rattle.block_predicates.specs.declared.marks.EntryMarks.{EntryMarks}
use Rattle.block_predicates.specs.Entries.{has_entries, lane_count}
use Rattle.block_predicates.specs.Marks.{AreMarksFor, IsTypedOn, kept_of}
use Rattle.block_predicates.proofs.RowMarks.{kept_is}
use Rattle.scan_select.specs.OnBlocks.{AreRowsFrom, IsMarkedIf, IsMarkedOn, IsMarkedWhere}

-- ---- blocks

rows_at : (n : ℕ) (bs : List Block) (p : ℕ) → AllByRecursion (λ b. b.rows ≡ n) bs → p < length bs → (get_or bs p no_block).rows ≡ n
rows_at n [] p equal lt = absurd (omega (arith, lt))
rows_at n (b ∷ bs) zero equal lt = equal.0
rows_at n (b ∷ bs) (suc p) equal lt = rows_at n bs p equal.1 (omega (arith, lt))

-- each block has as many rows as the row group
pub block_rows : (blocks : List Block) (p : ℕ) → All (λ b. b.rows ≡ rows_of blocks) blocks → p < length blocks → (get_or blocks p no_block).rows ≡ rows_of blocks
block_rows blocks p equal lt = rows_at (rows_of blocks) blocks p (recursion_from_All (λ b. b.rows ≡ rows_of blocks) blocks equal) lt

-- a condition stands on one column
pub same_column : (a b : ℕ) (e : Expr) → StandsOn a e → StandsOn b e → a ≡ b
same_column a b e one two = let same : ◌≡◌ {A = Option ℕ} (Some a) (Some b) = sym (stands_named e a one) ∙ stands_named e b two in cc

-- ---- one condition

module _ (types : RowTypes) (rows : List JoinedRow) (blocks : List Block) (first count : ℕ) (old : List ℕ) (c : Expr) (m : EntryMarks)
    (equal : All (λ b. b.rows ≡ rows_of blocks) blocks) (inside : first + count ≤ rows_of blocks) (below : All (λ p. p < count) old)
    (marked : IsMarkedOn blocks c m) (from : AreRowsFrom blocks first old rows) (typed : IsTypedOn types c m.column (get_or blocks m.column no_block)) where
  abbrev the_block : Block
  the_block = get_or blocks m.column no_block

  abbrev keep : ℕ → Bool
  keep p = get_or (kept_of the_block m) (first + p) false

  keeps_true : (i : ℕ) → is_among old i ≡ true → keep i ≡ is_true_lane (eval c (row_at rows i))
  keeps_true i among =
      let lt : i < count = within_among count old i below among in
      let row : first + i < the_block.rows = let same = block_rows blocks m.column equal marked.within in omega (arith, lt, inside, same) in
      kept_is the_block m (first + i) row
      ∙ sym (marked.marks.marked types typed (first + i) row (row_at rows i)
      (ap (λ (r : Row). column r m.column) (from i among) ∙ get_or-map (λ (b : Block). get_or (values_of b) (first + i) Null) blocks m.column no_block Null marked.within))

  pub marked_narrows : (held : Held) → Narrows (meant_at c rows) old (filter (λ p. get_or (kept_of (get_or blocks m.column no_block) m) (first + p) false) old) held held
  marked_narrows held = record {
    sound = λ i among before f faults. faultless c marked.marks.stands.pushable.plain (row_at rows i) f faults;
    kept = λ i before. among_filter keep old i ∙ same i;
    within = λ i among. first_of (is_among old i) (keep i) (sym (among_filter keep old i) ∙ among);
    origin = inl refl;
  }
    where
      same : (i : ℕ) → (is_among old i && keep i) ≡ (is_among old i && is_true_lane (eval c (row_at rows i)))
      same i = elim (is_among old i) as (λ b. is_among old i ≡ b → (b && keep i) ≡ (b && is_true_lane (eval c (row_at rows i)))) [
        | true ↦ λ among. keeps_true i among
        | false ↦ λ _. refl
      ] refl

-- ---- one condition after the other

module _ (R : Expr → Option EntryMarks → Type 0) where
  pub as_many : (cs : List Expr) (ms : List (Option EntryMarks)) → AllZip R cs ms → length ms ≡ length cs
  as_many [] [] are = refl
  as_many [] (m ∷ ms) are = absurd are
  as_many (c ∷ cs) [] are = absurd are
  as_many (c ∷ cs) (m ∷ ms) are = ap suc (as_many cs ms are.1)

  pub zip_at : (cs : List Expr) (ms : List (Option EntryMarks)) (k : ℕ) (c : Expr) (m : Option EntryMarks) → AllZip R cs ms → k < length cs → c ≡ get_or cs k c → m ≡ get_or ms k m → R c m
  zip_at [] ms k c m are lt c_is m_is = absurd (omega (arith, lt))
  zip_at (x ∷ cs) [] k c m are lt c_is m_is = absurd are
  zip_at (x ∷ cs) (y ∷ ms) zero c m are lt c_is m_is = subst (λ (e : Expr). R e m) (sym c_is) (subst (R x) (sym m_is) are.0)
  zip_at (x ∷ cs) (y ∷ ms) (suc k) c m are lt c_is m_is = zip_at cs ms k c m are.1 (omega (arith, lt)) c_is m_is

  pub zip_push : (cs : List Expr) (ms : List (Option EntryMarks)) (c : Expr) (m : Option EntryMarks) → AllZip R cs ms → R c m → AllZip R (cs ++ c ∷ []) (ms ++ m ∷ [])
  zip_push [] [] c m are is = (is, tt)
  zip_push [] (y ∷ ms) c m are is = absurd are
  zip_push (x ∷ cs) [] c m are is = absurd are
  zip_push (x ∷ cs) (y ∷ ms) c m are is = (are.0, zip_push cs ms c m are.1 is)

-- marks of the block of its column
pub marked_if : (blocks : List Block) (c : Expr) (at : ℕ) (b : Block) (found : Option EntryMarks) → StandsOn at c → at < length blocks → b ≡ get_or blocks at no_block
    → ((m : EntryMarks) → found ≡ Some m → AreMarksFor c b m) → IsMarkedIf blocks c found
marked_if blocks c at b None stands lt is are = tt
marked_if blocks c at b (Some m) stands lt is are =
    let marks = are m refl in
    let same = same_column at m.column c stands marks.stands in
    record {
      within = subst (λ (n : ℕ). n < length blocks) same lt;
      marks = subst (λ (x : Block). AreMarksFor c x m) (is ∙ ap (λ (n : ℕ). get_or blocks n no_block) same) marks;
    }

-- ---- where there are no marks

-- where none are made of the block of its column, that block has no entries
pub where_made : (blocks : List Block) (most : ℕ) (c : Expr) (at : ℕ) (b : Block) (found : Option EntryMarks) → StandsOn at c → b ≡ get_or blocks at no_block
    → (found ≡ None → has_entries b.kind ≡ false) → IsMarkedWhere blocks most c found
where_made blocks most c at b (Some m) stands is none = tt
where_made blocks most c at b None stands is none = λ other on lt has few.
    let same = same_column other at c on stands in
    let there : has_entries b.kind ≡ true = ap (λ (x : Block). has_entries x.kind) (is ∙ ap (λ (n : ℕ). get_or blocks n no_block) (sym same)) ∙ has in
    let clash = sym (none refl) ∙ there in cc

-- the block has more lanes
pub where_more : (blocks : List Block) (most : ℕ) (c : Expr) (at : ℕ) (b : Block) (lanes : ℕ) → StandsOn at c → b ≡ get_or blocks at no_block → lanes ≡ lane_count b → most < lanes → IsMarkedWhere blocks most c None
where_more blocks most c at b lanes stands is counted more = λ other on lt has few.
    let same = same_column other at c on stands in
    let there : lane_count b ≡ lane_count (get_or blocks other no_block) = ap lane_count (is ∙ ap (λ (n : ℕ). get_or blocks n no_block) (sym same)) in
    omega (arith, counted, more, few, there)

-- the row group has no such column
pub where_past : (blocks : List Block) (most : ℕ) (c : Expr) (at : ℕ) → StandsOn at c → length blocks ≤ at → IsMarkedWhere blocks most c None
where_past blocks most c at stands past = λ other on lt has few. let same = same_column other at c on stands in omega (arith, same, past, lt)
