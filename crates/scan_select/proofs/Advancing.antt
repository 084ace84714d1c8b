-- A step from one vector to the next.
use Rattle.std.proofs.Common.{◌≡◌, ℕ, ◌+◌, ◌-◌, ◌≤◌, ◌<◌, min, Bool, false, true, eqb, List, [], ◌∷◌, ◌++◌, Option, Some, None, Ok, Err, refl, ap, sym, subst, ◌∙◌, arith}
use Rattle.std.specs.Prelude.{if◌then◌else◌, IfSome}
use Rattle.std.proofs.lemmas.Bool.{ne_eqb}
use Rattle.blocks.specs.Block.{Block}
use Rattle.fragment_file.specs.declared.fault.FileFault.{FileFault}
use Rattle.fragment_file.specs.View.{rows_of}
use Rattle.group_reader.specs.Coming.{Coming, with_group}
use Rattle.group_reader.specs.Reader.{Counts, IsThere, only}
use Rattle.scan_select.specs.Groups.{GroupsGoOn, current_rows}
use Rattle.scan_select.specs.Pieces.{Piece, sizes, pieces_at, pieces_of, pieces, piece_now, pieces_behind}
use Rattle.scan_select.specs.Scanned.{Advances, AreLeft, CountsRows, IsStanding, ScanSpec, StaysIn, left_behind, with_piece}
use Rattle.scan_select.proofs.Sizes.{sizes_end, sizes_step}

-- within a row group: the pieces from a row on are one from there and those behind it
pub piece_and_rest : (n : ℕ) (group : List Block) (from : ℕ) → 0 < n → from < rows_of group
    → pieces_behind n (Some group) from
    ≡ record { group = group; first = from; rows = min n (rows_of group - from) } ∷ pieces_behind n (Some group) (from + min n (rows_of group - from))
piece_and_rest n group from some below =
    let left : 0 < rows_of group - from = omega arith in
    let size = sizes_step n (rows_of group - from) some left in
    let same : rows_of group - from - min n (rows_of group - from) ≡ rows_of group - (from + min n (rows_of group - from)) = omega arith in
    ap (pieces_at group from) (size ∙ ap (λ (k : ℕ). min n (rows_of group - from) ∷ sizes n k) same)

-- behind the last row of the row group there are none
pub none_behind : (n : ℕ) (current : Option (List Block)) (from : ℕ) → 0 < n → current_rows current ≤ from → pieces_behind n current from ≡ []
none_behind n None from some all = refl
none_behind n (Some group) from some all =
    let none : rows_of group - from ≡ 0 = omega (arith, all) in
    rw none (ap (pieces_at group from) (sizes_end n some))

-- rows stand behind others of the same row group
pub still_stand : (n : ℕ) (current : Option (List Block)) (group_rows behind rows : ℕ) → 0 < n → group_rows ≡ current_rows current → behind < group_rows → rows ≡ min n (group_rows - behind) → IsStanding true (piece_now current behind rows)
still_stand n None group_rows behind rows some all below size = absurd (omega (arith, all, below))
still_stand n (Some group) group_rows behind rows some all below size =
    let filled : eqb rows 0 ≡ false = ne_eqb _ _ (λ h. omega (arith, h, size, below, some)) in
    rw filled (record { group = group; first = behind; rows = rows }, refl)

-- rows that stand in a row group which has some
pub some_stand : (n group_rows rows : ℕ) (more : Bool) (current : Option (List Block)) → 0 < n → IsThere more current → IfSome current (λ _. 1 ≤ group_rows) → rows ≡ min n group_rows
    → IsStanding more (piece_now current 0 rows)
some_stand n group_rows rows true current some stands filled size =
    let kept : 1 ≤ group_rows = subst (λ (c : Option (List Block)). IfSome c (λ _. 1 ≤ group_rows)) stands.1 filled in
    let some_rows : eqb rows 0 ≡ false = ne_eqb _ _ (λ h. omega (arith, h, kept, size, some)) in
    rw (stands.1, some_rows) (record { group = stands.0; first = 0; rows = rows }, refl)
some_stand n group_rows rows false current some stands filled size = rw stands refl

-- ---- in which row group

-- the next vector of the same row group
pub stays_in : (n : ℕ) (current : Option (List Block)) (group_rows first rows more : ℕ) → 0 < n → group_rows ≡ current_rows current → first + rows < group_rows → rows ≡ min n (group_rows - first)
    → StaysIn (piece_now current first rows) (piece_now current (first + rows) more)
stays_in n None group_rows first rows more some all below size = absurd (omega (arith, all, below))
stays_in n (Some group) group_rows first rows more some all below size =
    let filled : eqb rows 0 ≡ false = ne_eqb _ _ (λ h. omega (arith, h, size, below, some)) in
    rw filled (behind (eqb more 0))
  where
    behind : (b : Bool) → StaysIn (Some (record { group = group; first = first; rows = rows })) (if b then None else Some (record { group = group; first = first + rows; rows = more }))
    behind true = tt
    behind false = λ _. (record { group = group; first = first; rows = rows }, refl, refl)

-- the first vector of a row group
pub begins_group : (old : Option Piece) (current : Option (List Block)) (rows : ℕ) → StaysIn old (piece_now current 0 rows)
begins_group old None rows = tt
begins_group old (Some group) rows = first_one (eqb rows 0)
  where
    first_one : (b : Bool) → StaysIn old (if b then None else Some (record { group = group; first = 0; rows = rows }))
    first_one true = tt
    first_one false = λ later. absurd (later refl)

-- ---- what is still to come

abbrev piece_of : List Block → ℕ → ℕ → Piece
piece_of group first rows = record { group = group; first = first; rows = rows }

-- what is left of a row group begins with a piece
left_with : (n : ℕ) (behind : List Piece) (piece : Piece) (more : List Piece) (c : Coming) → behind ≡ piece ∷ more → left_behind n behind c ≡ with_piece piece (left_behind n more c)
left_with n behind piece more c is = ap (λ (ps : List Piece). left_behind n ps c) is

module _ {G : Type 0} (is_coming : G → Coming → Type 0) (n : ℕ) (some : 0 < n) where
  -- the next vector of the same row group
  pub same_group : (current : Option (List Block)) (group_rows behind rows : ℕ) (old new : ScanSpec G) → group_rows ≡ current_rows current → behind < group_rows
      → rows ≡ min n (group_rows - behind) → old.most ≡ n → old.behind ≡ pieces_behind n current behind → new.source ≡ old.source → new.most ≡ n → new.at ≡ piece_now current behind rows → new.behind ≡ pieces_behind n current (behind + rows)
      → Advances is_coming old new (Ok true)
  same_group None group_rows behind rows old new all below size was_most was same most at left = absurd (omega (arith, all, below))
  same_group (Some group) group_rows behind rows old new all below size was_most was same most at left =
      let size' : rows ≡ min n (rows_of group - behind) = size ∙ ap (λ (k : ℕ). min n (k - behind)) all in
      let kept : 0 < rows = omega (arith, size', below, all, some) in
      let filled : eqb rows 0 ≡ false = ne_eqb _ _ (λ h. omega (arith, h, kept)) in
      let front : pieces_behind n (Some group) behind ≡ piece_of group behind rows ∷ pieces_behind n (Some group) (behind + rows) = rw size' (piece_and_rest n group behind some (omega (arith, all, below))) in (
        piece_of group behind rows,
        (λ rest are.
            let (c, coming, parts) = are in (
              c,
              subst (λ (source : G). is_coming source c) same coming,
              ap (with_piece (piece_of group behind rows)) (parts ∙ (λ i. left_behind (most i) (left i) c))
                  ∙ sym (left_with n _ (piece_of group behind rows) (pieces_behind n (Some group) (behind + rows)) c front)
                  ∙ (λ i. left_behind (sym was_most i) (sym was i) c),
            )),
        at ∙ rw filled refl,
      )

  -- nothing is left of the row group that stood
  from_source : (current : Option (List Block)) (behind : ℕ) (old : ScanSpec G) (c : Coming) → current_rows current ≤ behind → old.most ≡ n → old.behind ≡ pieces_behind n current behind → is_coming old.source c → AreLeft is_coming old (left_behind n [] c)
  from_source current behind old c end was_most was coming = (c, coming, (λ i. left_behind (sym was_most i) (sym (was ∙ none_behind n current behind some end) i) c))

  -- the first vector of the next row group, or the end
  pub next_group : (before current : Option (List Block)) (behind group_rows rows : ℕ) (old new : ScanSpec G) (more : Bool) → current_rows before ≤ behind
      → old.most ≡ n → old.behind ≡ pieces_behind n before behind → GroupsGoOn (is_coming old.source) (is_coming new.source) current (Ok more)
      → group_rows ≡ current_rows current → IfSome current (λ _. 1 ≤ group_rows) → rows ≡ min n group_rows
      → new.most ≡ n → new.at ≡ piece_now current 0 rows → new.behind ≡ pieces_behind n current rows
      → Advances is_coming old new (Ok more)
  next_group before current behind group_rows rows old new true end was_most was step all filled size most at left =
      let (group, came, stands) = step in
      let kept : 1 ≤ group_rows = subst (λ (x : Option (List Block)). IfSome x (λ _. 1 ≤ group_rows)) stands filled in
      let all' : group_rows ≡ rows_of group = all ∙ ap current_rows stands in
      let size' : rows ≡ min n (rows_of group - 0) = omega (arith, size, all') in
      let some_rows : eqb rows 0 ≡ false = ne_eqb _ _ (λ h. omega (arith, h, kept, size, some)) in
      let parts : pieces_behind n (Some group) 0 ≡ piece_of group 0 rows ∷ pieces_behind n (Some group) rows = rw size' (piece_and_rest n group 0 some (omega (arith, kept, all')) ∙ ap (λ (k : ℕ). piece_of group 0 (min n (rows_of group - 0)) ∷ pieces_behind n (Some group) k) (omega arith)) in
      let front : pieces_of n group ≡ piece_of group 0 rows ∷ pieces_behind n (Some group) rows = ap (λ (k : ℕ). pieces_at group 0 (sizes n k)) (omega arith) ∙ parts in (
        piece_of group 0 rows,
        (λ rest are.
            let (c, coming, is) = are in
            subst (AreLeft is_coming old)
            (ap (λ (ps : List Piece). record { pieces = ps ++ pieces n c.groups; end = c.end }) front
            ∙ ap (with_piece (piece_of group 0 rows)) (sym (is ∙ (λ i. left_behind (most i) ((left ∙ ap (λ (x : Option (List Block)). pieces_behind n x rows) stands) i) c))))
            (from_source before behind old (with_group group c) end was_most was (came c coming))),
        at ∙ ap (λ (x : Option (List Block)). piece_now x 0 rows) stands ∙ rw some_rows refl,
      )
  next_group before current behind group_rows rows old new false end was_most was step all filled size most at left =
      let (over, still, none) = step in (
        from_source before behind old (only None) end was_most was over,
        (only None, still, (λ i. left_behind (sym most i) (sym (left ∙ ap (λ (x : Option (List Block)). pieces_behind n x rows) none) i) (only None))),
        at ∙ ap (λ (x : Option (List Block)). piece_now x 0 rows) none,
      )

  -- why there is neither
  pub no_group : (before current : Option (List Block)) (behind : ℕ) (still : Coming → Type 0) (old new : ScanSpec G) (e : FileFault) → current_rows before ≤ behind
      → old.most ≡ n → old.behind ≡ pieces_behind n before behind → GroupsGoOn (is_coming old.source) still current (Err e) → Advances is_coming old new (Err e)
  no_group before current behind still old new e end was_most was step no_memory no_device =
      from_source before behind old (only (Some e)) end was_most was (step no_memory no_device)

-- ---- how many rows are left

pub counts_same : (n : ℕ) (current : Option (List Block)) (group_rows behind rows left : ℕ) → 0 < n → group_rows ≡ current_rows current → behind < group_rows → rows ≡ min n (group_rows - behind)
    → CountsRows true ((group_rows - behind) + left) ((group_rows - (behind + rows)) + left) (piece_now current behind rows)
counts_same n None group_rows behind rows left some all below size = absurd (omega (arith, all, below))
counts_same n (Some group) group_rows behind rows left some all below size =
    let filled : eqb rows 0 ≡ false = ne_eqb _ _ (λ h. omega (arith, h, size, below, some)) in
    rw filled (omega (arith, size, below, some), omega (arith, size, below, some))

pub counts_next : (n : ℕ) (current : Option (List Block)) (old_rows behind group_rows rows old new : ℕ) (more : Bool) → 0 < n → old_rows ≤ behind → IsThere more current → Counts more old new current
    → group_rows ≡ current_rows current → IfSome current (λ _. 1 ≤ group_rows) → rows ≡ min n group_rows
    → CountsRows more ((old_rows - behind) + old) ((group_rows - rows) + new) (piece_now current 0 rows)
counts_next n current old_rows behind group_rows rows old new true some end there counts all filled size =
    let kept : 1 ≤ group_rows = subst (λ (x : Option (List Block)). IfSome x (λ _. 1 ≤ group_rows)) there.1 filled in
    let count : (1 ≤ rows_of there.0) × (old ≡ rows_of there.0 + new) = subst (λ (x : Option (List Block)). IfSome x (λ g. (1 ≤ rows_of g) × (old ≡ rows_of g + new))) there.1 counts in
    let many = count.1 in
    let all' : group_rows ≡ rows_of there.0 = all ∙ ap current_rows there.1 in
    let some_rows : eqb rows 0 ≡ false = ne_eqb _ _ (λ h. omega (arith, h, kept, size, some)) in
    rw (there.1, some_rows) (omega (arith, size, kept, some), omega (arith, size, kept, some, end, many, all'))
counts_next n current old_rows behind group_rows rows old new false some end there counts all filled size =
    let was = counts.0 in
    let is = counts.1 in
    let none : group_rows ≡ 0 = all ∙ ap current_rows there in
    (omega (arith, end, was), omega (arith, none, is))
