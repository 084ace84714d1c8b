-- The changes that are planned, and how many of them were made.
use Rattle.std.proofs.Common.{◌≡◌, ◌≤◌, ◌<◌, ℕ, zero, suc, ◌+◌, ◌-◌, List, [], ◌∷◌, ◌++◌, length, map, take, drop, get_or, refl, sym, subst, ap, ◌∙◌, append_assoc, append-nil, arith, add-one, inl, inr}
use Rattle.std.specs.Prelude.{◌⊎◌, IfErr, OnErr, Result, Ok, Err, Option, None, Some, zip}
use Rattle.std.specs.List.{enumerate_from, range_with_len}
use Rattle.std.proofs.lemmas.List.{length-map, map-append, take_all}
use Rattle.loader.proofs.Ranges.{range_to_next}
use Rattle.meaning.specs.Cut.{Cut}
use Rattle.meaning.specs.Limits.{max_fragments}
use Rattle.meaning.specs.declared.catalog.Catalog.{Catalog}
use Rattle.meaning.specs.declared.catalog.Dimension.{Dimension}
use Rattle.meaning.specs.declared.catalog.Table.{Table}
use Rattle.columns.specs.Column.{ColumnSpec}
use Rattle.folders.specs.Each.{AreEach}
use Rattle.folders.proofs.Each.{each_more, numbered_more, zipped_more}
use Rattle.folders.specs.Folder.{Change, Finishes, Writes, cut_path, dimension_path, fragment_path}
use Rattle.folders.specs.declared.refusal.Refusal.{Refusal}
use Rattle.folders.specs.declared.refusal.Refusal.TheVariants as refusal
use Rattle.loads.specs.Refusing.{IsWholeUnlessStuck}
use Rattle.loads.specs.declared.ready.Ready.{Ready}
use Rattle.loads.specs.Loading.{AreFiles, AreFilesBegun, AreFirst, AreFirstOfThree, AreFragmentsClosed, AreKnown, IsCutReady, IsDimensionFile, IsDimensionReady, IsFragmentClosed, IsFragmentFile, IsReadyUnder, cut_file_of, gone, put, removal_paths, removals}

-- ---- one change more

pub none_made : (all : List Change) (before : Option (List Change)) → Writes (λ changes. changes ≡ take 0 all) before before
none_made all before = λ old known. ([], known ∙ ap Some (sym (append-nil old)), refl)

next_suc : {A B : Type 0} (f : A → B) (xs : List A) (n : ℕ) (x : A) (rest : List A) → drop n xs ≡ x ∷ rest → take (suc n) (map f xs) ≡ take n (map f xs) ++ f x ∷ []
next_suc f [] zero x rest at = cc at
next_suc f [] (suc n) x rest at = cc at
next_suc f (y ∷ ys) zero x rest at = let same : y ≡ x = cc at in ap (λ z. f z ∷ []) same
next_suc f (y ∷ ys) (suc n) x rest at = ap (λ l. f y ∷ l) (next_suc f ys n x rest at)

pub next_taken : {A B : Type 0} (f : A → B) (xs : List A) (n : ℕ) (x : A) (rest : List A) → drop n xs ≡ x ∷ rest → take (n + 1) (map f xs) ≡ take n (map f xs) ++ f x ∷ []
next_taken f xs n x rest at = rw add-one (next_suc f xs n x rest at)

pub made_more : (all : List Change) (n : ℕ) (change : Change) (before now after : Option (List Change)) → take (n + 1) all ≡ take n all ++ change ∷ [] → Writes (λ changes. changes ≡ take n all) before now
    → ((old : List Change) → now ≡ Some old → after ≡ Some (old ++ change ∷ [])) → Writes (λ changes. changes ≡ take (n + 1) all) before after
made_more all n change before now after next made one = λ old known.
    let (new, reached, are) = made old known in (
      new ++ change ∷ [],
      one (old ++ new) reached ∙ ap Some (append_assoc old new (change ∷ [])),
      ap (λ l. l ++ change ∷ []) are ∙ sym next,
    )

pub all_made : (all : List Change) (n : ℕ) (before after : Option (List Change)) → length all ≤ n → Writes (λ changes. changes ≡ take n all) before after → Writes (λ changes. changes ≡ all) before after
all_made all n before after few made = subst (λ (l : List Change). Writes (λ changes. changes ≡ l) before after) (take_all n all few) made

pub first_made : (all : List Change) (n : ℕ) (before now after : Option (List Change)) → n ≤ length all → after ≡ now → Writes (λ changes. changes ≡ take n all) before now → Writes (AreFirst all) before after
first_made all n before now after few same made = λ old known.
    let (new, reached, are) = made old known in
    (new, same ∙ reached, (n, few, are))

-- ---- closed files

module _ {P : Type 0} (enclosed : P → Option (List ℕ)) where
  pub known_at : (files : List (Ready P)) (n : ℕ) (r : Ready P) (rest : List (Ready P)) → AreKnown enclosed files → drop n files ≡ r ∷ rest → (bytes : List ℕ) × (enclosed r.file ≡ Some bytes)
  known_at [] zero r rest known at = cc at
  known_at [] (suc n) r rest known at = cc at
  known_at (f ∷ files) zero r rest known at =
      let same : f ≡ r = cc at in
      subst (λ (x : Ready P). (bytes : List ℕ) × (enclosed x.file ≡ Some bytes)) same known.0
  known_at (f ∷ files) (suc n) r rest known at = known_at files n r rest known.1 at

  -- a closed file of these bytes is put under its path
  pub put_one : (r : Ready P) (now after : Option (List Change)) → (bytes : List ℕ) × (enclosed r.file ≡ Some bytes) → Finishes now after r.path (enclosed r.file) → (old : List Change) → now ≡ Some old → after ≡ Some (old ++ put enclosed r ∷ [])
  put_one r now after (bytes, has) finished = λ old reached. finished old bytes reached has ∙ ap (λ (b : Option (List ℕ)). Some (old ++ (r.path, b) ∷ [])) (sym has)

  pub put_next : (files : List (Ready P)) (n : ℕ) (r : Ready P) (rest : List (Ready P)) (before now after : Option (List Change)) → AreKnown enclosed files → drop n files ≡ r ∷ rest
      → Writes (λ changes. changes ≡ take n (map (put enclosed) files)) before now → Finishes now after r.path (enclosed r.file) → Writes (λ changes. changes ≡ take (n + 1) (map (put enclosed) files)) before after
  put_next files n r rest before now after known at made finished =
      made_more (map (put enclosed) files) n (put enclosed r) before now after (next_taken (put enclosed) files n r rest at) made (put_one r now after (known_at files n r rest known at) finished)

-- ---- steps one behind the other

pub then_made : (a b : List Change) (before now after : Option (List Change)) → Writes (λ changes. changes ≡ a) before now → Writes (λ changes. changes ≡ b) now after → Writes (λ changes. changes ≡ a ++ b) before after
then_made a b before now after first second = λ old known.
    let (x, reached, is) = first old known in
    let (y, ends, this) = second (old ++ x) reached in
    (x ++ y, ends ∙ ap Some (append_assoc old x y), ap (λ l. l ++ y) is ∙ ap (λ l. a ++ l) this)

pub stopped_first : (a b c : List Change) (before after : Option (List Change)) → Writes (AreFirst a) before after → Writes (AreFirstOfThree a b c) before after
stopped_first a b c before after first = λ old known.
    let (x, reached, is) = first old known in
    (x, reached, inl is)

pub stopped_second : (a b c : List Change) (before now after : Option (List Change)) → Writes (λ changes. changes ≡ a) before now → Writes (AreFirst b) now after → Writes (AreFirstOfThree a b c) before after
stopped_second a b c before now after first second = λ old known.
    let (x, reached, is) = first old known in
    let (y, ends, (n, few, this)) = second (old ++ x) reached in
    (x ++ y, ends ∙ ap Some (append_assoc old x y), inr (inl (n, few, ap (λ l. l ++ y) is ∙ ap (λ l. a ++ l) this)))

pub stopped_third : (a b c : List Change) (before first second after : Option (List Change)) → Writes (λ changes. changes ≡ a) before first → Writes (λ changes. changes ≡ b) first second → Writes (AreFirst c) second after
    → Writes (AreFirstOfThree a b c) before after
stopped_third a b c before first second after one two three = λ old known.
    let (x, reached, is) = one old known in
    let (y, further, so) = two (old ++ x) reached in
    let (z, ends, (n, few, this)) = three ((old ++ x) ++ y) further in (
      x ++ (y ++ z),
      ends ∙ ap Some (append_assoc (old ++ x) y z ∙ append_assoc old x (y ++ z)),
      inr (inr (n, few, ap (λ l. l ++ (y ++ z)) is ∙ ap (λ l. a ++ (l ++ z)) so ∙ ap (λ l. a ++ (b ++ l)) this)),
    )

-- all but the last
pub stopped_last : (a b c : List Change) (before first second third after : Option (List Change)) → Writes (λ changes. changes ≡ a) before first → Writes (λ changes. changes ≡ b) first second → Writes (λ changes. changes ≡ c) second third → after ≡ third
    → Writes (AreFirstOfThree a b c) before after
stopped_last a b c before first second third after one two three same =
    stopped_third a b c before first second after one two (λ old known.
    let (z, ends, is) = three old known in
    (z, same ∙ ends, (length c, omega arith, is ∙ sym (take_all (length c) c (omega arith)))))

-- ---- the files of a load

numbered_take : {A : Type 0} (s n : ℕ) (xs : List A) → take n (enumerate_from s xs) ≡ enumerate_from s (take n xs)
numbered_take s zero xs = refl
numbered_take s (suc n) [] = refl
numbered_take s (suc n) (x ∷ xs) = ap (λ l. (s, x) ∷ l) (numbered_take (s + 1) n xs)

zip_take : {A B : Type 0} (n : ℕ) (xs : List A) (ys : List B) → take n (zip xs ys) ≡ zip (take n xs) (take n ys)
zip_take zero xs ys = refl
zip_take (suc n) [] ys = refl
zip_take (suc n) (x ∷ xs) [] = refl
zip_take (suc n) (x ∷ xs) (y ∷ ys) = ap (λ l. (x, y) ∷ l) (zip_take n xs ys)

each_take : {A B : Type 0} (Fits : A → B → Type 0) (n : ℕ) (xs : List A) (ys : List B) → AreEach Fits xs ys → AreEach Fits (take n xs) (take n ys)
each_take Fits zero xs ys all = tt
each_take Fits (suc n) [] [] all = tt
each_take Fits (suc n) [] (y ∷ ys) all = absurd all
each_take Fits (suc n) (x ∷ xs) [] all = absurd all
each_take Fits (suc n) (x ∷ xs) (y ∷ ys) all = (all.0, each_take Fits n xs ys all.1)

range_take : {A : Type 0} (f : ℕ → A) (n s m : ℕ) → n ≤ m → take n (map f (range_with_len s m)) ≡ map f (range_with_len s n)
range_take f zero s m few = refl
range_take f (suc n) s zero few = absurd (omega (arith, few))
range_take f (suc n) s (suc m) few = ap (λ l. f s ∷ l) (range_take f n (s + 1) m (omega (arith, few)))

gone_range : (path : ℕ → List ℕ) (ks : List ℕ) → map gone (map path ks) ≡ map (λ k. (path k, None)) ks
gone_range path [] = refl
gone_range path (k ∷ ks) = ap (λ l. (path k, None) ∷ l) (gone_range path ks)

range_length : (s n : ℕ) → length (range_with_len s n) ≡ n
range_length s zero = refl
range_length s (suc n) = ap (λ k. suc k) (range_length (s + 1) n)

module _ {P : Type 0} (enclosed : P → Option (List ℕ)) (wrote : Option (List Change)) (old : List Change) (is : wrote ≡ Some old) (folder : List ℕ) (load : ℕ) (catalog : Catalog) (cut : Cut) where
  fragments_from : (s : ℕ) (fragments : List (List ColumnSpec)) (files : List P) (ready : List (Ready P)) → AreEach (IsFragmentClosed enclosed wrote load catalog.fact cut) (enumerate_from s fragments) files
      → AreEach (IsReadyUnder folder catalog.fact) (enumerate_from s files) ready → AreKnown enclosed ready × AreEach (IsFragmentFile folder load catalog.fact cut) (enumerate_from s fragments) (map (put enclosed) ready)
  fragments_from s [] [] [] closed under = (tt, tt)
  fragments_from s [] [] (r ∷ ready) closed under = absurd under
  fragments_from s [] (f ∷ files) ready closed under = absurd closed
  fragments_from s (c ∷ fragments) [] ready closed under = absurd closed
  fragments_from s (c ∷ fragments) (f ∷ files) [] closed under = absurd under
  fragments_from s (c ∷ fragments) (f ∷ files) (r ∷ ready) closed under =
      let (bytes, has, stands) = closed.0 old is in
      let here : enclosed r.file ≡ Some bytes = ap enclosed under.0.1 ∙ has in
      let rest = fragments_from (s + 1) fragments files ready closed.1 under.1 in
      (((bytes, here), rest.0), ((bytes, ap (λ (path : List ℕ). (path, enclosed r.file)) under.0.0 ∙ ap (λ (b : Option (List ℕ)). (fragment_path folder catalog.fact.name s, b)) here, stands), rest.1))

  dims_from : (ds : List Dimension) (columns : List (List ColumnSpec)) (ready : List (Ready P)) → AreEach (IsDimensionReady enclosed wrote folder load) (zip ds columns) ready
      → AreKnown enclosed ready × AreEach (IsDimensionFile folder load) (zip ds columns) (map (put enclosed) ready)
  dims_from [] columns [] closed = (tt, tt)
  dims_from [] columns (r ∷ ready) closed = absurd closed
  dims_from (d ∷ ds) [] [] closed = (tt, tt)
  dims_from (d ∷ ds) [] (r ∷ ready) closed = absurd closed
  dims_from (d ∷ ds) (c ∷ columns) [] closed = absurd closed
  dims_from (d ∷ ds) (c ∷ columns) (r ∷ ready) closed =
      let (bytes, here, stands) = closed.0.1 old is in
      let rest = dims_from ds columns ready closed.1 in
      (((bytes, here), rest.0), ((bytes, ap (λ (path : List ℕ). (path, enclosed r.file)) closed.0.0 ∙ ap (λ (b : Option (List ℕ)). (dimension_path folder d.table.name, b)) here, stands), rest.1))

  cut_known : (r : Ready P) → IsCutReady enclosed wrote folder load cut r → AreKnown enclosed (r ∷ []) × (put enclosed r ≡ cut_file_of folder load cut)
  cut_known r closed =
      let (bytes, here, spelled) = closed.1 old is in
      (((bytes, here), tt), ap (λ (path : List ℕ). (path, enclosed r.file)) closed.0 ∙ ap (λ (b : Option (List ℕ)). (cut_path folder, b)) (here ∙ ap Some spelled))

-- all files of a load were put under their paths
pub files_made : {P : Type 0} (enclosed : P → Option (List ℕ)) (folder : List ℕ) (load : ℕ) (catalog : Catalog) (cut : Cut) (fragments columns : List (List ColumnSpec)) (files : List P) (ready dims : List (Ready P)) (others : List (List ℕ)) (last : Ready P)
    (before after : Option (List Change)) → AreFragmentsClosed enclosed before load catalog.fact cut fragments files → AreEach (IsReadyUnder folder catalog.fact) (enumerate_from 0 files) ready
    → AreEach (IsDimensionReady enclosed before folder load) (zip catalog.dims columns) dims → IsCutReady enclosed before folder load cut last → others ≡ removal_paths folder catalog.fact cut
    → (AreKnown enclosed ready → AreKnown enclosed dims → AreKnown enclosed (last ∷ [])
    → Writes (λ changes. changes ≡ ((map (put enclosed) ready ++ map (put enclosed) dims) ++ map gone others) ++ put enclosed last ∷ []) before after)
    → Writes (AreFiles folder load catalog cut fragments columns) before after
files_made enclosed folder load catalog cut fragments columns files ready dims others last before after closed under dims_closed cut_closed paths made = λ old known.
    let front = fragments_from enclosed before old known folder load catalog cut 0 fragments files ready closed under in
    let middle = dims_from enclosed before old known folder load catalog cut catalog.dims columns dims dims_closed in
    let end = cut_known enclosed before old known folder load catalog cut last cut_closed in
    let (new, reached, are) = made front.0 middle.0 end.0 old known in
    let A = map (put enclosed) ready in
    let B = map (put enclosed) dims in
    let left : map gone others ≡ removals folder catalog.fact cut = ap (map gone) paths ∙ gone_range (fragment_path folder catalog.fact.name) (range_with_len (length cut) (max_fragments - length cut)) in (
      new,
      reached,
      record {
        of_fragments = A;
        fragments_are = front.1;
        of_dims = B;
        dims_are = middle.1;
        whole = are ∙ ap (λ l. ((A ++ B) ++ l) ++ put enclosed last ∷ []) left ∙ ap (λ f. ((A ++ B) ++ removals folder catalog.fact cut) ++ f ∷ []) end.1;
      },
    )

-- the first of them were
pub files_begun : {P : Type 0} (enclosed : P → Option (List ℕ)) (folder : List ℕ) (load : ℕ) (catalog : Catalog) (cut : Cut) (fragments columns : List (List ColumnSpec)) (files : List P) (ready dims : List (Ready P)) (others : List (List ℕ))
    (before after : Option (List Change)) → AreFragmentsClosed enclosed before load catalog.fact cut fragments files → AreEach (IsReadyUnder folder catalog.fact) (enumerate_from 0 files) ready
    → AreEach (IsDimensionReady enclosed before folder load) (zip catalog.dims columns) dims → others ≡ removal_paths folder catalog.fact cut
    → (AreKnown enclosed ready → AreKnown enclosed dims → Writes (AreFirstOfThree (map (put enclosed) ready) (map (put enclosed) dims) (map gone others)) before after)
    → Writes (AreFilesBegun folder load catalog cut fragments columns) before after
files_begun enclosed folder load catalog cut fragments columns files ready dims others before after closed under dims_closed paths made = λ old known.
    let front = fragments_from enclosed before old known folder load catalog cut 0 fragments files ready closed under in
    let middle = dims_from enclosed before old known folder load catalog cut catalog.dims columns dims dims_closed in
    let (new, reached, are) = made front.0 middle.0 old known in
    (new, reached, begun old known front.1 middle.1 new are) where
      begun : (old : List Change) → before ≡ Some old → AreEach (IsFragmentFile folder load catalog.fact cut) (enumerate_from 0 fragments) (map (put enclosed) ready)
          → AreEach (IsDimensionFile folder load) (zip catalog.dims columns) (map (put enclosed) dims) → (changes : List Change)
          → AreFirstOfThree (map (put enclosed) ready) (map (put enclosed) dims) (map gone others) changes → AreFilesBegun folder load catalog cut fragments columns changes
      begun old known front middle changes (inl (n, few, are)) =
          inl (
            n,
            subst (AreEach (IsFragmentFile folder load catalog.fact cut) (enumerate_from 0 (take n fragments))) (sym are)
                (subst (λ (l : List (ℕ × List ColumnSpec)). AreEach (IsFragmentFile folder load catalog.fact cut) l (take n (map (put enclosed) ready))) (numbered_take 0 n fragments)
                (each_take (IsFragmentFile folder load catalog.fact cut) n (enumerate_from 0 fragments) (map (put enclosed) ready) front)),
          )
      begun old known front middle changes (inr (inl (n, few, are))) = inr (inl (record {
        of_fragments = map (put enclosed) ready;
        fragments_are = front;
        behind = take n (map (put enclosed) dims);
        behind_are = (
          n,
          subst (λ (l : List (Dimension × List ColumnSpec)). AreEach (IsDimensionFile folder load) l (take n (map (put enclosed) dims))) (zip_take n catalog.dims columns)
              (each_take (IsDimensionFile folder load) n (zip catalog.dims columns) (map (put enclosed) dims) middle),
        );
        whole = are;
      }))
      begun old known front middle changes (inr (inr (n, few, are))) =
          let path = fragment_path folder catalog.fact.name in
          let most = max_fragments - length cut in
          let all : map gone others ≡ map (λ k. (path k, None)) (range_with_len (length cut) most) = ap (map gone) paths ∙ gone_range path (range_with_len (length cut) most) in
          let count : length (map gone others) ≡ most = ap length all ∙ length-map (range_with_len (length cut) most) (λ k. (path k, None)) ∙ range_length (length cut) most in
          let within : n ≤ most = omega (arith, few, count) in
          inr (inr (record {
            of_fragments = map (put enclosed) ready;
            fragments_are = front;
            behind = map (put enclosed) dims ++ take n (map gone others);
            behind_are = record {
              of_dims = map (put enclosed) dims;
              dims_are = middle;
              removals = take n (map gone others);
              removals_are = (n, within, ap (take n) all ∙ range_take (λ k. (path k, None)) n (length cut) most within);
              whole = refl;
            };
            whole = are;
          }))

-- ---- more closed files

-- one fragment more has its path
pub ready_more : {P : Type 0} (folder : List ℕ) (table : Table) (files : List P) (k : ℕ) (file : P) (r : Ready P) (before after : List (Ready P)) → k < length files → file ≡ get_or files k file
    → AreEach (IsReadyUnder folder table) (enumerate_from 0 (take k files)) before → r.path ≡ fragment_path folder table.name k → r.file ≡ file → after ≡ before ++ r ∷ []
    → AreEach (IsReadyUnder folder table) (enumerate_from 0 (take (k + 1) files)) after
ready_more {P = P} folder table files k file r before after below at all path is more =
    let front : enumerate_from 0 (take (k + 1) files) ≡ enumerate_from 0 (take k files) ++ (k, get_or files k file) ∷ [] = numbered_more files k file below in
    subst (λ (l : List (ℕ × P)). AreEach (IsReadyUnder folder table) l after) (sym front)
    (subst (λ (l : List (Ready P)). AreEach (IsReadyUnder folder table) (enumerate_from 0 (take k files) ++ (k, get_or files k file) ∷ []) l) (sym more)
    (each_more (IsReadyUnder folder table) (enumerate_from 0 (take k files)) before (k, get_or files k file) r all (path, is ∙ at)))

-- one dimension more is closed
pub dimension_ready_more : {P : Type 0} (enclosed : P → Option (List ℕ)) (wrote : Option (List Change)) (folder : List ℕ) (load : ℕ) (ds : List Dimension) (columns : List (List ColumnSpec)) (k : ℕ) (d : Dimension) (own : List ColumnSpec) (r : Ready P) (before after : List (Ready P))
    → k < length ds → k < length columns → d ≡ get_or ds k d → own ≡ get_or columns k own → AreEach (IsDimensionReady enclosed wrote folder load) (zip (take k ds) (take k columns)) before
    → IsDimensionReady enclosed wrote folder load (d, own) r → after ≡ before ++ r ∷ [] → AreEach (IsDimensionReady enclosed wrote folder load) (zip (take (k + 1) ds) (take (k + 1) columns)) after
dimension_ready_more {P = P} enclosed wrote folder load ds columns k d own r before after left right d_is own_is all one more =
    let IsOne = IsDimensionReady enclosed wrote folder load in
    let last : (d, own) ≡ (get_or ds k d, get_or columns k own) = cc in
    subst (λ (l : List (Dimension × List ColumnSpec)). AreEach IsOne l after) (ap (λ p. zip (take k ds) (take k columns) ++ p ∷ []) last ∙ sym (zipped_more ds columns k d own left right))
    (subst (λ (l : List (Ready P)). AreEach IsOne (zip (take k ds) (take k columns) ++ (d, own) ∷ []) l) (sym more) (each_more IsOne (zip (take k ds) (take k columns)) before (d, own) r all one))

pub dimensions_ready : {P : Type 0} (IsOne : Dimension × List ColumnSpec → Ready P → Type 0) (ds declared : List Dimension) (columns : List (List ColumnSpec)) (k : ℕ) (ready : List (Ready P)) → declared ≡ ds → length declared ≤ k → length ds ≡ length columns
    → AreEach IsOne (zip (take k declared) (take k columns)) ready → AreEach IsOne (zip ds columns) ready
dimensions_ready IsOne ds declared columns k ready same none alike all =
    let count = ap length same in
    let left : take k declared ≡ ds = take_all k declared none ∙ same in
    let few : length columns ≤ k = omega (arith, count, alike) in
    subst (λ (l : List (Dimension × List ColumnSpec)). AreEach IsOne l ready) (ap (λ l. zip l (take k columns)) left ∙ ap (zip ds) (take_all k columns few)) all

-- one path more
pub range_more : (path : ℕ → List ℕ) (first k : ℕ) (before after : List (List ℕ)) (p : List ℕ) → first ≤ k → before ≡ map path (range_with_len first (k - first)) → p ≡ path k → after ≡ before ++ p ∷ []
    → after ≡ map path (range_with_len first (k + 1 - first))
range_more path first k before after p le are is more =
    let count : k + 1 - first ≡ suc (k - first) = omega (arith, le) in
    let last : first + (k - first) ≡ k = omega (arith, le) in
    more ∙ ap (λ l. l ++ p ∷ []) are ∙ ap (λ q. map path (range_with_len first (k - first)) ++ q ∷ []) (is ∙ ap path (sym last))
    ∙ sym (ap (λ n. map path (range_with_len first n)) count ∙ ap (map path) (range_to_next first (k - first)) ∙ map-append path (range_with_len first (k - first)) ((first + (k - first)) ∷ []))

-- one change behind these
pub then_one : (a : List Change) (change : Change) (before now after : Option (List Change)) → Writes (λ changes. changes ≡ a) before now → ((old : List Change) → now ≡ Some old → after ≡ Some (old ++ change ∷ []))
    → Writes (λ changes. changes ≡ a ++ change ∷ []) before after
then_one a change before now after first one = λ old known.
    let (x, reached, is) = first old known in
    (x ++ change ∷ [], one (old ++ x) reached ∙ ap Some (append_assoc old x (change ∷ [])), ap (λ l. l ++ change ∷ []) is)

-- none was made
pub none_begun : (folder : List ℕ) (load : ℕ) (catalog : Catalog) (cut : Cut) (fragments columns : List (List ColumnSpec)) (before after : Option (List Change)) → after ≡ before → Writes (AreFilesBegun folder load catalog cut fragments columns) before after
none_begun folder load catalog cut fragments columns before after same = λ old known. ([], same ∙ known ∙ ap Some (sym (append-nil old)), inl (0, tt))

-- what was so before other files were written, none of which has a path yet
pub whole_since : {Stuck : Type 0} (before now after : Option (List Change)) → now ≡ before → (after ≡ now) ⊎ Stuck → (after ≡ before) ⊎ Stuck
whole_since before now after same (inl unchanged) = inl (unchanged ∙ same)
whole_since before now after same (inr stuck) = inr stuck

-- the files were saved, unless one is stuck
pub whole_stopped : {Same Stuck Printed : Type 0} → Same ⊎ Stuck → Same ⊎ Stuck ⊎ Printed
whole_stopped (inl same) = inl same
whole_stopped (inr stuck) = inr (inl stuck)

-- they were, and the line can't be printed
pub whole_unprinted : {X : Type 0} (stays : List ℕ → Type 0) (before after : Option (List Change)) (r : Result X Refusal) → IfErr r (λ e. e ≡ refusal.CannotPrint) → IfErr r (λ e. IsWholeUnlessStuck stays e before after)
whole_unprinted stays before after (Ok x) refused = tt
whole_unprinted stays before after (Err e) refused = inr (inr refused)

-- behind a step that writes no file
pub whole_behind : {X : Type 0} (stays : List ℕ → Type 0) (before now after : Option (List Change)) (r : Result X Refusal) → now ≡ before → IfErr r (λ e. IsWholeUnlessStuck stays e now after) → IfErr r (λ e. IsWholeUnlessStuck stays e before after)
whole_behind stays before now after (Ok x) same whole = tt
whole_behind stays before now after (Err e) same (inl unchanged) = inl (unchanged ∙ same)
whole_behind stays before now after (Err e) same (inr other) = inr other

-- what is so whatever is refused
pub on_any_err : {T E X : Type 0} (r : Result T E) → X → OnErr r X
on_any_err (Ok x) is = tt
on_any_err (Err e) is = is
