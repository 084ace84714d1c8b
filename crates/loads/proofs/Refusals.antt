-- Why `load` is refused, from what its steps are refused for.
use Rattle.std.proofs.Common.{◌≡◌, ℕ, suc, ◌<◌, List, ◌∷◌, ◌++◌, length, drop, take, get_or, Contains, sym, ap, subst, ◌∙◌, inl, inr}
use Rattle.std.proofs.Math.Seq.{split_at}
use Rattle.std.proofs.lemmas.List.Elements.{Contains-get_or}
use Rattle.meaning.specs.Cut.{Cut}
use Rattle.meaning.specs.declared.catalog.Catalog.{Catalog}
use Rattle.meaning.specs.declared.catalog.Dimension.{Dimension}
use Rattle.columns.specs.Column.{ColumnSpec}
use Rattle.loader.specs.Fault as loads
use Rattle.loader.specs.declared.fault.LoadFault.{LoadFault}
use Rattle.loader.specs.declared.fault.LoadFault.TheVariants as load_fault
use Rattle.folders.specs.Each.{AreEach}
use Rattle.folders.specs.Folder.{Holds, csv_path, cut_path, dimension_path, fragment_path}
use Rattle.folders.specs.Refused.{IsAskedFor, IsReturnedAs, IsUnread, IsUnwritten, load_refusal}
use Rattle.folders.specs.declared.refusal.Refusal.{Refusal}
use Rattle.folders.specs.declared.refusal.Refusal.TheVariants as refusal
use Rattle.loads.specs.Loading.{IsDimensionLoaded}
use Rattle.loads.specs.Refusing.{IsDimensionRefused, IsFirstRefused, IsUnsaved}

-- ---- the fact

pub uncounted : (folder table : List ℕ) (fault : LoadFault) (e : Refusal) → loads.IsOutside fault → IsReturnedAs (load_refusal folder table fault) e → IsUnread (csv_path folder table) e
uncounted folder table load_fault.Memory e stands (inl memory) = inl memory
uncounted folder table load_fault.Memory e stands (inr returned) = inl returned
uncounted folder table load_fault.Device e stands (inl memory) = inl memory
uncounted folder table load_fault.Device e stands (inr returned) = inr returned
uncounted folder table (load_fault.Table f) e stands is = absurd stands

-- a file that was asked for
pub asked_behind : (asks : List ℕ → Type 0) (folder table : List ℕ) (fault : LoadFault) (e : Refusal) → asks (csv_path folder table) → IsReturnedAs (load_refusal folder table fault) e → IsAskedFor asks e
asked_behind asks folder table fault e asked (inl memory) = λ path is. let bad : refusal.Memory ≡ refusal.CannotRead path = sym memory ∙ is in absurd (cc bad)
asked_behind asks folder table load_fault.Memory e asked (inr returned) = λ path is. let bad : refusal.Memory ≡ refusal.CannotRead path = sym returned ∙ is in absurd (cc bad)
asked_behind asks folder table (load_fault.Table f) e asked (inr returned) = λ path is. let bad : refusal.Load f ≡ refusal.CannotRead path = sym returned ∙ is in absurd (cc bad)
asked_behind asks folder table load_fault.Device e asked (inr returned) = λ path is.
    let same : refusal.CannotRead (csv_path folder table) ≡ refusal.CannotRead path = sym returned ∙ is in
    let named : csv_path folder table ≡ path = cc same in
    subst asks named asked

-- ---- dimensions

-- a dimension is refused, and those before it are loaded
pub first_refused : (holds : Holds) (folder : List ℕ) (dims items : List Dimension) (k : ℕ) (d : Dimension) (columns : List (List ColumnSpec)) (e : Refusal)
    → items ≡ dims → k < length items → d ≡ get_or items k d → AreEach (IsDimensionLoaded holds folder) (take k items) columns → IsDimensionRefused holds folder d e → IsFirstRefused holds folder dims e
first_refused holds folder dims items k d columns e same below is loaded refused = record {
  before = take k items;
  dim = d;
  behind = drop (suc k) items;
  dims_are = sym same ∙ (split_at items k d below ∙ ap (λ x. take k items ++ x ∷ drop (suc k) items) (sym is));
  columns = columns;
  loaded = loaded;
  refused = refused;
}

-- it is one of them
pub contained : (dims items : List Dimension) (k : ℕ) (d : Dimension) → items ≡ dims → k < length items → d ≡ get_or items k d → Contains dims d
contained dims items k d same below is = subst (λ xs. Contains xs d) same (subst (λ x. Contains items x) (sym is) (Contains-get_or items k d below))

-- ---- files that can't be written

unwritten_asked : (asks : List ℕ → Type 0) (path : List ℕ) (e : Refusal) → IsUnwritten path e → IsAskedFor asks e
unwritten_asked asks path e (inl memory) = λ read is. let bad : refusal.Memory ≡ refusal.CannotRead read = sym memory ∙ is in absurd (cc bad)
unwritten_asked asks path e (inr unwritten) = λ read is. let bad : refusal.CannotWrite path ≡ refusal.CannotRead read = sym unwritten ∙ is in absurd (cc bad)

-- nothing is read once the dimensions are loaded
pub unsaved_asked : (asks : List ℕ → Type 0) (folder : List ℕ) (catalog : Catalog) (cut : Cut) (e : Refusal) → IsUnsaved folder catalog cut e → IsAskedFor asks e
unsaved_asked asks folder catalog cut e (inr unprinted) = λ read is. let bad : refusal.CannotPrint ≡ refusal.CannotRead read = sym unprinted ∙ is in absurd (cc bad)
unsaved_asked asks folder catalog cut e (inl (inl (k, below, unwritten))) = unwritten_asked asks (fragment_path folder catalog.fact.name k) e unwritten
unsaved_asked asks folder catalog cut e (inl (inr (inl (d, among, unwritten)))) = unwritten_asked asks (dimension_path folder d.table.name) e unwritten
unsaved_asked asks folder catalog cut e (inl (inr (inr (inl (k, behind, below, unwritten))))) = unwritten_asked asks (fragment_path folder catalog.fact.name k) e unwritten
unsaved_asked asks folder catalog cut e (inl (inr (inr (inr unwritten)))) = unwritten_asked asks (cut_path folder) e unwritten
