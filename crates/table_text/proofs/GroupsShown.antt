-- Blocks and row groups that are read and shown one after the other.
use Rattle.std.proofs.Common.{◌≡◌, ℕ, ◌+◌, ◌-◌, ◌<◌, ◌≤◌, ltb, Bool, true, false, List, [], ◌∷◌, ◌++◌, length, take, drop, get_or, arith, refl, subst, sym, ap, ◌∙◌, append_assoc, append-nil}
use Rattle.std.specs.Prelude.{if◌then◌else◌, flat_map, map, min, zip, Err, Ok, Result}
use Rattle.std.specs.List.{enumerate_from}
use Rattle.std.proofs.lemmas.Bool.{ltb-false, ltb-true}
use Rattle.std.proofs.lemmas.Grind.{flat_map-append}
use Rattle.std.proofs.lemmas.List.{drop_all, drop_more, length-append, length-take-le, map-append, take_all, take_more}
use Rattle.meaning.specs.Limits.{row_group_rows}
use Rattle.meaning.specs.declared.catalog.Column.{Column}
use Rattle.blocks.specs.Block.{Block}
use Rattle.wire.specs.Reading.{◌>>=◌, Read}
use Rattle.answer_fields.specs.declared.fault.DecodeFault.{DecodeFault}
use Rattle.fragment_file.specs.Fragment.{group_sizes}
use Rattle.fragment_file.proofs.Sizes.{sizes_end, sizes_step}
use Rattle.answer_text.proofs.Cells.{numbered_more}
use Rattle.answer_text.specs.Reading.{Shows}
use Rattle.answer_text.specs.declared.damage.Stop.{Stop}
use Rattle.table_text.specs.Fields.{ShowsAs}
use Rattle.table_text.specs.BlockText.{block_at, block_line, column_blocks, total_line, total_of}
use Rattle.table_text.specs.TableText.{GroupLayout, all_groups_text, blocks_at, blocks_text, columns_and_groups_at, columns_and_groups_text, each_total_text, group_at, group_text, groups_at, groups_text, sealed_groups_at, sized_groups_text, totals_text}

-- what is read, behind those that were read
abbrev pub behind : {X : Type 0} → List X → Read DecodeFault (List X) → Read DecodeFault (List X)
behind before read = read >>= λ others. Ok (before ++ others.0, others.1)

abbrev behind_one : {X : Type 0} → X → Read DecodeFault (List X) → Read DecodeFault (List X)
behind_one x read = read >>= λ others. Ok (x ∷ others.0, others.1)

moved : {X : Type 0} (before : List X) (x : X) (read : Read DecodeFault (List X)) → behind before (behind_one x read) ≡ behind (before ++ x ∷ []) read
moved {X} before x (Ok p) = ap (λ (xs : List X). Ok (xs, p.1)) (sym (append_assoc before (x ∷ []) p.0))
moved before x (Err e) = refl

pub begins : {X : Type 0} (read : Read DecodeFault (List X)) → behind [] read ≡ read
begins (Ok p) = refl
begins (Err e) = refl

-- ---- blocks

drop_next : {X : Type 0} (xs : List X) (i : ℕ) (x : X) → i < length xs → x ≡ get_or xs i x → drop i xs ≡ x ∷ drop (i + 1) xs
drop_next xs i x below is = drop_more xs i x below ∙ ap (λ y. y ∷ drop (i + 1) xs) (sym is)

take_next : {X : Type 0} (xs : List X) (i : ℕ) (x : X) → i < length xs → x ≡ get_or xs i x → take (i + 1) xs ≡ take i xs ++ x ∷ []
take_next xs i x below is = take_more xs i x below ∙ ap (λ y. take i xs ++ y ∷ []) (sym is)

module _ (before : List Block) (columns : List Column) (i : ℕ) (c : Column) (item : c ≡ get_or columns i c) (rows : ℕ) (bytes : List ℕ) (all : Read DecodeFault (List Block)) (so_far : behind before (blocks_at (drop i columns) rows bytes) ≡ all) where
  pub blocks_go_on : (b : Block) (rest : List ℕ) → i < length columns → block_at c rows bytes ≡ Ok (b, rest) → behind (before ++ b ∷ []) (blocks_at (drop (i + 1) columns) rows rest) ≡ all
  unfolding blocks_at
  blocks_go_on b rest below is =
      let one : behind before (blocks_at (drop i columns) rows bytes) ≡ behind (before ++ b ∷ []) (blocks_at (drop (i + 1) columns) rows rest) = rw (drop_next columns i c below item, is) (moved before b (blocks_at (drop (i + 1) columns) rows rest)) in
      sym one ∙ so_far

  pub blocks_fail : (e : DecodeFault) → i < length columns → block_at c rows bytes ≡ Err e → all ≡ Err e
  unfolding blocks_at
  blocks_fail e below is =
      let one : behind before (blocks_at (drop i columns) rows bytes) ≡ Err e = rw (drop_next columns i c below item, is) refl in
      sym so_far ∙ one

pub blocks_finish : (before : List Block) (columns : List Column) (i rows : ℕ) (bytes : List ℕ) (all : Read DecodeFault (List Block)) → behind before (blocks_at (drop i columns) rows bytes) ≡ all → length columns ≤ i → all ≡ Ok (before, bytes)
unfolding blocks_at
blocks_finish before columns i rows bytes all so_far past =
    let one : behind before (blocks_at (drop i columns) rows bytes) ≡ Ok (before, bytes) = rw (drop_all i columns past) (ap (λ (xs : List Block). Ok (xs, bytes)) (append-nil before)) in
    sym so_far ∙ one

zip_more : {X Y : Type 0} (xs : List X) (ys : List Y) (x : X) (y : Y) → length xs ≡ length ys → zip (xs ++ x ∷ []) (ys ++ y ∷ []) ≡ zip xs ys ++ (x, y) ∷ []
zip_more [] [] x y is = refl
zip_more [] (b ∷ ys) x y is = absurd (omega (arith, is))
zip_more (a ∷ xs) [] x y is = absurd (omega (arith, is))
zip_more (a ∷ xs) (b ∷ ys) x y is = ap (λ t. (a, b) ∷ t) (zip_more xs ys x y (omega (arith, is)))

pub block_shown : (blocks : List Block) (columns : List Column) (i : ℕ) (c : Column) (b : Block) (old out new : List ℕ) → i < length columns → c ≡ get_or columns i c → length blocks ≡ i → out ≡ old ++ blocks_text (take i columns) blocks
    → new ≡ out ++ block_line c.name b → (new ≡ old ++ blocks_text (take (i + 1) columns) (blocks ++ b ∷ [])) × (length (blocks ++ b ∷ []) ≡ i + 1)
block_shown blocks columns i c b old out new below item long so_far more =
    let line = λ (p : Column × Block). block_line p.0.name p.1 in
    let front = blocks_text (take i columns) blocks in
    let same : length (take i columns) ≡ length blocks = length-take-le i columns (omega (arith, below)) ∙ sym long in
    let all : blocks_text (take (i + 1) columns) (blocks ++ b ∷ []) ≡ front ++ block_line c.name b =
    ap (λ cs. blocks_text cs (blocks ++ b ∷ [])) (take_next columns i c below item) ∙ ap (flat_map line) (zip_more (take i columns) blocks c b same) ∙ flat_map-append line (zip (take i columns) blocks) ((c, b) ∷ []) ∙ ap (λ t. front ++ t) (append-nil (block_line c.name b)) in (
      more ∙ ap (λ t. t ++ block_line c.name b) so_far ∙ append_assoc old front (block_line c.name b) ∙ ap (λ t. old ++ t) (sym all),
      length-append blocks (b ∷ []) ∙ ap (λ n. n + 1) long,
    )

pub all_blocks_shown : (blocks : List Block) (columns : List Column) (i : ℕ) (old out : List ℕ) → length columns ≤ i → out ≡ old ++ blocks_text (take i columns) blocks → out ≡ old ++ blocks_text columns blocks
all_blocks_shown blocks columns i old out past so_far = so_far ∙ ap (λ cs. old ++ blocks_text cs blocks) (take_all i columns past)

-- ---- row groups

least : (left : ℕ) (b : Bool) → ltb left row_group_rows ≡ b → min left row_group_rows ≡ (if b then left else row_group_rows)
least left true is = let less = ltb-true _ _ is in omega (arith, less)
least left false is = let past = ltb-false _ _ is in omega (arith, past)

size_next : (left : ℕ) → 0 < left → group_sizes left ≡ min left row_group_rows ∷ group_sizes (left - min left row_group_rows)
size_next left some = sizes_step left some ∙ ap (λ n. n ∷ group_sizes (left - n)) (sym (least left (ltb left row_group_rows) refl))

module _ (before : List GroupLayout) (whole : List ℕ) (columns : List Column) (left : ℕ) (bytes : List ℕ) (all : Read DecodeFault (List GroupLayout)) (so_far : behind before (groups_at whole columns (group_sizes left) bytes) ≡ all) where
  pub groups_go_on : (g : GroupLayout) (rest : List ℕ) (next : ℕ) → 0 < left → next ≡ left - min left row_group_rows → group_at whole columns (min left row_group_rows) bytes ≡ Ok (g, rest) → behind (before ++ g ∷ []) (groups_at whole columns (group_sizes next) rest) ≡ all
  unfolding groups_at
  groups_go_on g rest next some less is =
      let sizes = group_sizes (left - min left row_group_rows) in
      let one : behind before (groups_at whole columns (group_sizes left) bytes) ≡ behind (before ++ g ∷ []) (groups_at whole columns sizes rest) =
      ap (λ s. behind before (groups_at whole columns s bytes)) (size_next left some) ∙ ap (λ r. behind before (r >>= λ x. behind_one x.0 (groups_at whole columns sizes x.1))) is ∙ moved before g (groups_at whole columns sizes rest) in
      ap (λ n. behind (before ++ g ∷ []) (groups_at whole columns (group_sizes n) rest)) less ∙ sym one ∙ so_far

  pub groups_fail : (e : DecodeFault) → 0 < left → group_at whole columns (min left row_group_rows) bytes ≡ Err e → all ≡ Err e
  unfolding groups_at
  groups_fail e some is =
      let sizes = group_sizes (left - min left row_group_rows) in
      let one : behind before (groups_at whole columns (group_sizes left) bytes) ≡ Err e =
      ap (λ s. behind before (groups_at whole columns s bytes)) (size_next left some) ∙ ap (λ r. behind before (r >>= λ x. behind_one x.0 (groups_at whole columns sizes x.1))) is in
      sym so_far ∙ one

  pub groups_finish : left ≤ 0 → all ≡ Ok (before, bytes)
  unfolding groups_at
  groups_finish none =
      let zero : left ≡ 0 = omega (arith, none) in
      let one : behind before (groups_at whole columns (group_sizes left) bytes) ≡ Ok (before, bytes) =
      ap (λ n. behind before (groups_at whole columns (group_sizes n) bytes)) zero ∙ ap (λ s. behind before (groups_at whole columns s bytes)) sizes_end ∙ ap (λ (xs : List GroupLayout). Ok (xs, bytes)) (append-nil before) in
      sym so_far ∙ one

pub no_groups_shown : (columns : List Column) (first : ℕ) (old : List ℕ) → old ≡ old ++ groups_text columns first []
unfolding groups_text
no_groups_shown columns first old = sym (append-nil old)

pub group_shown : (columns : List Column) (first k : ℕ) (groups : List GroupLayout) (g : GroupLayout) (old out new : List ℕ) → k ≡ length groups → out ≡ old ++ groups_text columns first groups → new ≡ out ++ group_text columns first k g
    → new ≡ old ++ groups_text columns first (groups ++ g ∷ [])
unfolding groups_text
group_shown columns first k groups g old out new long so_far more =
    let text = λ (p : ℕ × GroupLayout). group_text columns first p.0 p.1 in
    let front = groups_text columns first groups in
    let all : groups_text columns first (groups ++ g ∷ []) ≡ front ++ group_text columns first k g =
    ap (flat_map text) (numbered_more 0 groups g k (omega (arith, long))) ∙ flat_map-append text (enumerate_from 0 groups) ((k, g) ∷ []) ∙ ap (λ t. front ++ t) (append-nil (group_text columns first k g)) in
    more ∙ ap (λ t. t ++ group_text columns first k g) so_far ∙ append_assoc old front (group_text columns first k g) ∙ ap (λ t. old ++ t) (sym all)

-- ---- totals

-- the groups that are kept have the blocks that were read
pub group_kept : (old new : List (List Block)) (groups : List GroupLayout) (g : GroupLayout) → new ≡ old ++ g.blocks ∷ [] → old ≡ map (λ x. x.blocks) groups → new ≡ map (λ x. x.blocks) (groups ++ g ∷ [])
group_kept old new groups g more so_far = more ∙ ap (λ o. o ++ g.blocks ∷ []) so_far ∙ sym (map-append (λ x. x.blocks) groups (g ∷ []))

pub total_shown : (rows : ℕ) (groups : List (List Block)) (columns : List Column) (i : ℕ) (c : Column) (old out new : List ℕ) → i < length columns → c ≡ get_or columns i c → out ≡ old ++ each_total_text rows groups (take i columns)
    → new ≡ out ++ total_line rows c.name (total_of (column_blocks i groups)) → new ≡ old ++ each_total_text rows groups (take (i + 1) columns)
total_shown rows groups columns i c old out new below item so_far more =
    let text = λ (p : ℕ × Column). total_line rows p.1.name (total_of (column_blocks p.0 groups)) in
    let front = each_total_text rows groups (take i columns) in
    let line = text (i, c) in
    let long : length (take i columns) ≡ i = length-take-le i columns (omega (arith, below)) in
    let all : each_total_text rows groups (take (i + 1) columns) ≡ front ++ line =
    ap (each_total_text rows groups) (take_next columns i c below item) ∙ ap (flat_map text) (numbered_more 0 (take i columns) c i (omega (arith, long))) ∙ flat_map-append text (enumerate_from 0 (take i columns)) ((i, c) ∷ []) ∙ ap (λ t. front ++ t) (append-nil line) in
    more ∙ ap (λ t. t ++ line) so_far ∙ append_assoc old front line ∙ ap (λ t. old ++ t) (sym all)

pub all_totals_shown : (rows : ℕ) (groups : List (List Block)) (columns : List Column) (i : ℕ) (old out : List ℕ) → length columns ≤ i → out ≡ old ++ each_total_text rows groups (take i columns) → out ≡ old ++ each_total_text rows groups columns
all_totals_shown rows groups columns i old out past so_far = so_far ∙ ap (λ cs. old ++ each_total_text rows groups cs) (take_all i columns past)

-- the row groups, and what their blocks come to
pub shows_groups : (columns : List Column) (first rows : ℕ) (kept : List (List Block)) (r : Result (Unit {0}) Stop) (old mid new rest : List ℕ) (read : Read DecodeFault (List GroupLayout))
    → ShowsAs (λ done given. kept ≡ map (λ g. g.blocks) given) (groups_text columns first) r old mid rest read → new ≡ mid ++ totals_text rows kept columns → Shows (all_groups_text columns first rows) r old new rest read
shows_groups columns first rows kept (Ok done) old mid new rest read (given, is, text, same) more = (
  given,
  is,
  more ∙ ap (λ t. t ++ totals_text rows kept columns) text ∙ append_assoc old (groups_text columns first given) (totals_text rows kept columns)
      ∙ ap (λ bs. old ++ (groups_text columns first given ++ totals_text rows bs columns)) same,
)
shows_groups columns first rows kept (Err e) old mid new rest read stops more = stops

-- ---- the whole

-- the same, said of what these are
pub shows_of_columns : (given columns : List Column) (here first : ℕ) (part whole : List ℕ) (size rows : ℕ) (r : Result (Unit {0}) Stop) (old new rest bytes : List ℕ) → given ≡ columns → here ≡ first → part ≡ whole
    → Shows (sized_groups_text given here size rows) r old new rest (sealed_groups_at part given rows bytes) → Shows (sized_groups_text columns first size rows) r old new rest (sealed_groups_at whole columns rows bytes)
shows_of_columns given columns here first part whole size rows r old new rest bytes is at all shown =
    subst (λ w. Shows (sized_groups_text columns first size rows) r old new rest (sealed_groups_at w columns rows bytes)) all
    (subst (λ f. Shows (sized_groups_text columns f size rows) r old new rest (sealed_groups_at part columns rows bytes)) at
    (subst (λ cs. Shows (sized_groups_text cs here size rows) r old new rest (sealed_groups_at part cs rows bytes)) is shown))

pub shows_of_rows : (given rows here first : ℕ) (part whole : List ℕ) (size : ℕ) (r : Result (Unit {0}) Stop) (old new rest bytes : List ℕ) → given ≡ rows → here ≡ first → part ≡ whole
    → Shows (columns_and_groups_text here size given) r old new rest (columns_and_groups_at part given bytes) → Shows (columns_and_groups_text first size rows) r old new rest (columns_and_groups_at whole rows bytes)
shows_of_rows given rows here first part whole size r old new rest bytes is at all shown =
    subst (λ w. Shows (columns_and_groups_text first size rows) r old new rest (columns_and_groups_at w rows bytes)) all
    (subst (λ f. Shows (columns_and_groups_text f size rows) r old new rest (columns_and_groups_at part rows bytes)) at
    (subst (λ n. Shows (columns_and_groups_text here size n) r old new rest (columns_and_groups_at part n bytes)) is shown))

-- the line of a row group, and its blocks
pub line_behind : (old mid new line blocks : List ℕ) → mid ≡ old ++ line → new ≡ mid ++ blocks → new ≡ old ++ (line ++ blocks)
line_behind old mid new line blocks one two = two ∙ ap (λ t. t ++ blocks) one ∙ append_assoc old line blocks
