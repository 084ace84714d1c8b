-- A load that was finished behind its fact.
use Rattle.std.proofs.Common.{◌≡◌, ℕ, List, length, Ok, Err, Result, Option, subst, sym, ◌∙◌, inl, inr}
use Rattle.std.specs.Prelude.{◌⊎◌, IfErr, sum}
use Rattle.std.specs.List.{enumerate_from}
use Rattle.std.specs.Io.KnownBytes.{Appends}
use Rattle.meaning.specs.Cut.{Cut}
use Rattle.meaning.specs.declared.catalog.Catalog.{Catalog}
use Rattle.meaning.specs.declared.catalog.Table.{Table}
use Rattle.columns.specs.Column.{ColumnSpec}
use Rattle.folders.specs.Each.{AreEach}
use Rattle.folders.specs.Folder.{Change, Holds, Writes}
use Rattle.folders.specs.declared.refusal.Refusal.{Refusal}
use Rattle.folders.proofs.Each.{each_length}
use Rattle.loads.specs.Loading.{AreFiles, AreFragmentColumns, AreFragmentsClosed, IsCatalogLoaded, IsDimensionLoaded, IsFactLoaded, IsFragmentClosed, loaded_line}
use Rattle.loads.specs.Refusing.{IsCatalogLoadLeft, IsCatalogLoadRefused, IsUnfinished, IsUntouched, IsWrittenSoFar}
use Rattle.loads.proofs.WrittenFiles.{numbered_length}

-- there is a file for each fragment
pub closed_count : {P : Type 0} (enclosed : P → Option (List ℕ)) (wrote : Option (List Change)) (load : ℕ) (table : Table) (cut : Cut) (fragments : List (List ColumnSpec)) (files : List P)
    → AreEach (AreFragmentColumns table) cut fragments → AreFragmentsClosed enclosed wrote load table cut fragments files → length files ≡ length cut
closed_count enclosed wrote load table cut fragments files each closed =
    sym (each_length (AreFragmentColumns table) cut fragments each ∙ sym (numbered_length 0 fragments) ∙ each_length (IsFragmentClosed enclosed wrote load table cut) (enumerate_from 0 fragments) files closed)

-- what was done behind the fact, over a folder that holds and has written what it did before
pub catalog_loaded : (holds now : Holds) (folder : List ℕ) (load rows : ℕ) (catalog : Catalog) (cut : Cut) (fragments : List (List ColumnSpec)) (before after : Option (List ℕ)) (wrote reached wrote_after : Option (List Change))
    → now ≡ holds → reached ≡ wrote → IsFactLoaded holds folder catalog rows cut fragments
    → (dims : List (List ColumnSpec)) × AreEach (IsDimensionLoaded now folder) catalog.dims dims × Appends before after (loaded_line (sum cut) (length cut)) × Writes (AreFiles folder load catalog cut fragments dims) reached wrote_after
    → IsCatalogLoaded holds folder load rows catalog before after wrote wrote_after
catalog_loaded holds now folder load rows catalog cut fragments before after wrote reached wrote_after same kept fact (dims, each, printed, written) = record {
  cut = cut;
  fragments = fragments;
  fact = fact;
  dims = dims;
  each = subst (λ (h : Holds). AreEach (IsDimensionLoaded h folder) catalog.dims dims) same each;
  printed = printed;
  written = subst (λ (w : Option (List Change)). Writes (AreFiles folder load catalog cut fragments dims) w wrote_after) kept written;
}

-- what was refused behind it
pub refused_behind : {X : Type 0} (holds now : Holds) (folder : List ℕ) (catalog : Catalog) (rows : ℕ) (cut : Cut) (fragments : List (List ColumnSpec)) (r : Result X Refusal) → now ≡ holds → IsFactLoaded holds folder catalog rows cut fragments
    → IfErr r (IsUnfinished now folder catalog cut) → IfErr r (IsCatalogLoadRefused holds folder catalog rows)
refused_behind holds now folder catalog rows cut fragments (Ok x) same fact refused = tt
refused_behind holds now folder catalog rows cut fragments (Err e) same fact refused = inr (cut, fragments, fact, subst (λ (h : Holds). IsUnfinished h folder catalog cut e) same refused)

-- what a load leaves that was refused behind its fact
pub left_behind : {X : Type 0} (holds now : Holds) (folder : List ℕ) (load rows : ℕ) (catalog : Catalog) (cut : Cut) (fragments : List (List ColumnSpec)) (wrote reached after : Option (List Change)) (r : Result X Refusal) → now ≡ holds → reached ≡ wrote
    → IsFactLoaded holds folder catalog rows cut fragments
    → IfErr r (λ e. IsUntouched e reached after ⊎ ((dims : List (List ColumnSpec)) × AreEach (IsDimensionLoaded now folder) catalog.dims dims × IsWrittenSoFar folder load catalog cut fragments dims e reached after))
    → IfErr r (λ e. IsCatalogLoadLeft holds folder load rows catalog e wrote after)
left_behind holds now folder load rows catalog cut fragments wrote reached after (Ok x) same kept fact left = tt
left_behind holds now folder load rows catalog cut fragments wrote reached after (Err e) same kept fact (inl (apart, unchanged)) = inl (apart, unchanged ∙ kept)
left_behind holds now folder load rows catalog cut fragments wrote reached after (Err e) same kept fact (inr (dims, each, written)) = inr (record {
  cut = cut;
  fragments = fragments;
  fact = fact;
  dims = dims;
  each = subst (λ (h : Holds). AreEach (IsDimensionLoaded h folder) catalog.dims dims) same each;
  written = subst (λ (w : Option (List Change)). IsWrittenSoFar folder load catalog cut fragments dims e w after) kept written;
})

-- of the fragments whose files are closed
pub left_of : {X F : Type 0} (Same : Refusal → Type 0) (Closed : F → Type 0) (Then : F → Refusal → Type 0) (r : Result X Refusal) (fragments : F) → Closed fragments → IfErr r (λ e. Same e ⊎ ((f : F) → Closed f → Then f e)) → IfErr r (λ e. Same e ⊎ Then fragments e)
left_of Same Closed Then (Ok x) fragments closed left = tt
left_of Same Closed Then (Err e) fragments closed (inl same) = inl same
left_of Same Closed Then (Err e) fragments closed (inr then) = inr (then fragments closed)

-- ---- what is left where the files of a load aren't all saved

-- the first of them were written, or none, and standard output didn't fail
pub begun_left : {Apart Same Printed : Type 0} {F : Type 0} {Closed Begun All : F → Type 0} → Apart → Same ⊎ ((f : F) → Closed f → Begun f)
    → (Apart × Same) ⊎ ((f : F) → Closed f → (Apart × Begun f) ⊎ (Printed × All f))
begun_left apart (inl same) = inl (apart, same)
begun_left apart (inr begun) = inr (λ f closed. inl (apart, begun f closed))

-- all were, and the line can't be printed
pub printed_left : {X F : Type 0} {Closed All : F → Type 0} (Same : Refusal → Type 0) (Begun : Refusal → F → Type 0) (stop : Refusal) (r : Result X Refusal) → IfErr r (λ e. e ≡ stop) → ((f : F) → Closed f → All f)
    → IfErr r (λ e. Same e ⊎ ((f : F) → Closed f → Begun e f ⊎ ((e ≡ stop) × All f)))
printed_left Same Begun stop (Ok x) refused written = tt
printed_left Same Begun stop (Err e) refused written = inr (λ f closed. inr (refused, written f closed))

-- over dimensions that are loaded
pub loaded_left : {Same F : Type 0} {Closed SoFar Loaded : F → Type 0} → Same ⊎ ((f : F) → Closed f → SoFar f) → ((f : F) → SoFar f → Loaded f) → Same ⊎ ((f : F) → Closed f → Loaded f)
loaded_left (inl same) loaded = inl same
loaded_left (inr so_far) loaded = inr (λ f closed. loaded f (so_far f closed))
