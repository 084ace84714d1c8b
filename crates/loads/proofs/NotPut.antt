-- Which file of a load can't be put under its path or taken away.
use Rattle.std.proofs.Common.{◌≡◌, ◌≤◌, ◌<◌, ℕ, zero, suc, ◌+◌, ◌-◌, List, [], ◌∷◌, ◌++◌, length, map, get_or, Contains, refl, sym, subst, ◌∙◌, arith, inl, inr}
use Rattle.std.specs.Prelude.{◌⊎◌, Option, zip}
use Rattle.std.specs.List.{enumerate_from, range_with_len}
use Rattle.std.proofs.lemmas.List.Elements.{Contains-get_or}
use Rattle.meaning.specs.Cut.{Cut}
use Rattle.meaning.specs.Limits.{max_fragments}
use Rattle.meaning.specs.declared.catalog.Catalog.{Catalog}
use Rattle.meaning.specs.declared.catalog.Dimension.{Dimension}
use Rattle.meaning.specs.declared.catalog.Table.{Table}
use Rattle.columns.specs.Column.{ColumnSpec}
use Rattle.folders.specs.Each.{AreEach}
use Rattle.folders.specs.Folder.{Change, cut_path, dimension_path, fragment_path}
use Rattle.folders.specs.Refused.{IsUnwritten}
use Rattle.folders.specs.declared.refusal.Refusal.{Refusal}
use Rattle.loads.specs.declared.ready.Ready.{Ready}
use Rattle.loads.specs.Loading.{IsDimensionReady, IsReadyUnder, removal_paths}
use Rattle.loads.specs.Refusing.{AreFilesUnwritten, IsNotGone, IsNotPut}

fragment_among : {P : Type 0} (folder : List ℕ) (table : Table) (s : ℕ) (files : List P) (before : List (Ready P)) (r : Ready P) (behind : List (Ready P)) → AreEach (IsReadyUnder folder table) (enumerate_from s files) (before ++ r ∷ behind)
    → (k : ℕ) × (k < s + length files) × (r.path ≡ fragment_path folder table.name k)
fragment_among folder table s [] [] r behind all = absurd all
fragment_among folder table s [] (b ∷ before) r behind all = absurd all
fragment_among folder table s (f ∷ files) [] r behind all = (s, omega arith, all.0.0)
fragment_among folder table s (f ∷ files) (b ∷ before) r behind all =
    let (k, below, named) = fragment_among folder table (s + 1) files before r behind all.1 in
    (k, omega (arith, below), named)

dimension_among : {P : Type 0} (enclosed : P → Option (List ℕ)) (wrote : Option (List Change)) (folder : List ℕ) (load : ℕ) (ds : List Dimension) (columns : List (List ColumnSpec)) (before : List (Ready P)) (r : Ready P) (behind : List (Ready P))
    → AreEach (IsDimensionReady enclosed wrote folder load) (zip ds columns) (before ++ r ∷ behind) → (k : ℕ) × (d : Dimension) × (k < length ds) × (d ≡ get_or ds k d) × (r.path ≡ dimension_path folder d.table.name)
dimension_among enclosed wrote folder load [] columns [] r behind all = absurd all
dimension_among enclosed wrote folder load [] columns (b ∷ before) r behind all = absurd all
dimension_among enclosed wrote folder load (d ∷ ds) [] [] r behind all = absurd all
dimension_among enclosed wrote folder load (d ∷ ds) [] (b ∷ before) r behind all = absurd all
dimension_among enclosed wrote folder load (d ∷ ds) (c ∷ columns) [] r behind all = (0, d, omega arith, refl, all.0.0)
dimension_among enclosed wrote folder load (d ∷ ds) (c ∷ columns) (b ∷ before) r behind all =
    let (k, e, below, at, named) = dimension_among enclosed wrote folder load ds columns before r behind all.1 in
    (suc k, e, omega (arith, below), at, named)

range_among : (path : ℕ → List ℕ) (s n : ℕ) (before : List (List ℕ)) (p : List ℕ) (behind : List (List ℕ)) → map path (range_with_len s n) ≡ before ++ p ∷ behind → (k : ℕ) × (s ≤ k) × (k < s + n) × (p ≡ path k)
range_among path s zero [] p behind same = cc same
range_among path s zero (b ∷ before) p behind same = cc same
range_among path s (suc n) [] p behind same = let here : path s ≡ p = cc same in (s, omega arith, omega arith, sym here)
range_among path s (suc n) (b ∷ before) p behind same =
    let rest : map path (range_with_len (s + 1) n) ≡ before ++ p ∷ behind = cc same in
    let (k, from, below, named) = range_among path (s + 1) n before p behind rest in
    (k, omega (arith, from), omega (arith, below), named)

-- one of a load's files is it
pub files_unwritten : {P : Type 0} (enclosed : P → Option (List ℕ)) (wrote : Option (List Change)) (folder : List ℕ) (load : ℕ) (catalog : Catalog) (cut : Cut) (columns : List (List ColumnSpec)) (files : List P) (ready dims : List (Ready P)) (others : List (List ℕ)) (last : List ℕ) (e : Refusal)
    → length files ≡ length cut → length cut ≤ max_fragments → AreEach (IsReadyUnder folder catalog.fact) (enumerate_from 0 files) ready → AreEach (IsDimensionReady enclosed wrote folder load) (zip catalog.dims columns) dims
    → others ≡ removal_paths folder catalog.fact cut → last ≡ cut_path folder → IsNotPut ready e ⊎ IsNotPut dims e ⊎ IsNotGone others e ⊎ IsUnwritten last e → AreFilesUnwritten folder catalog cut e
files_unwritten enclosed wrote folder load catalog cut columns files ready dims others last e count most under closed paths ends (inl (before, behind, r, split, unwritten)) =
    let (k, below, named) = fragment_among folder catalog.fact 0 files before r behind (subst (AreEach (IsReadyUnder folder catalog.fact) (enumerate_from 0 files)) split under) in
    inl (k, omega (arith, below, count), subst (λ (p : List ℕ). IsUnwritten p e) named unwritten)
files_unwritten enclosed wrote folder load catalog cut columns files ready dims others last e count most under closed paths ends (inr (inl (before, behind, r, split, unwritten))) =
    let (k, d, below, at, named) = dimension_among enclosed wrote folder load catalog.dims columns before r behind (subst (AreEach (IsDimensionReady enclosed wrote folder load) (zip catalog.dims columns)) split closed) in
    inr (inl (d, subst (λ x. Contains catalog.dims x) (sym at) (Contains-get_or catalog.dims k d below), subst (λ (p : List ℕ). IsUnwritten p e) named unwritten))
files_unwritten enclosed wrote folder load catalog cut columns files ready dims others last e count most under closed paths ends (inr (inr (inl (before, behind, p, split, unwritten)))) =
    let (k, from, below, named) = range_among (fragment_path folder catalog.fact.name) (length cut) (max_fragments - length cut) before p behind (sym paths ∙ split) in
    inr (inr (inl (k, from, omega (arith, below, most), subst (λ (q : List ℕ). IsUnwritten q e) named unwritten)))
files_unwritten enclosed wrote folder load catalog cut columns files ready dims others last e count most under closed paths ends (inr (inr (inr unwritten))) =
    inr (inr (inr (subst (λ (p : List ℕ). IsUnwritten p e) ends unwritten)))
