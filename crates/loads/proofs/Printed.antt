-- Standard output is reported only where the line behind all files can't be printed.
use Rattle.std.proofs.Common.{◌≡◌, ◌≢◌, ℕ, List, inl, inr, sym, ◌∙◌}
use Rattle.meaning.specs.Cut.{Cut}
use Rattle.meaning.specs.declared.catalog.Catalog.{Catalog}
use Rattle.meaning.specs.declared.catalog.Dimension.{Dimension}
use Rattle.folders.proofs.Unprinted.{memory_apart, unread_apart}
use Rattle.folders.specs.Folder.{Holds}
use Rattle.folders.specs.Refused.{IsUnwritten}
use Rattle.folders.specs.declared.refusal.Refusal.{Refusal}
use Rattle.folders.specs.declared.refusal.Refusal.TheVariants as refusal
use Rattle.loads.specs.Refusing.{AreDimensionsRefused, AreFilesUnwritten, IsDimensionRefused, IsFactRefused, IsFactUnloaded, IsUneven}

unwritten_apart : (path : List ℕ) (e : Refusal) → IsUnwritten path e → e ≢ refusal.CannotPrint
unwritten_apart path e (inl memory) = memory_apart e memory
unwritten_apart path e (inr unwritten) = λ is. let bad : refusal.CannotWrite path ≡ refusal.CannotPrint = sym unwritten ∙ is in cc bad

uneven_apart : (counted rows : ℕ) (e : Refusal) → IsUneven counted rows e → e ≢ refusal.CannotPrint
uneven_apart counted rows e (inl memory) = memory_apart e memory
uneven_apart counted rows e (inr (fault, wrong, returned)) = λ is. let bad : refusal.Cut fault ≡ refusal.CannotPrint = sym returned ∙ is in cc bad

unloaded_apart : (holds : Holds) (folder : List ℕ) (catalog : Catalog) (cut : Cut) (e : Refusal) → IsFactUnloaded holds folder catalog cut e → e ≢ refusal.CannotPrint
unloaded_apart holds folder catalog cut e (inl unread) = unread_apart _ e unread
unloaded_apart holds folder catalog cut e (inr (fault, returned, wrong)) = λ is. let bad : refusal.Load fault ≡ refusal.CannotPrint = sym returned ∙ is in cc bad

pub fact_apart : (holds : Holds) (folder : List ℕ) (catalog : Catalog) (rows : ℕ) (e : Refusal) → IsFactRefused holds folder catalog rows e → e ≢ refusal.CannotPrint
fact_apart holds folder catalog rows e (inl unread) = unread_apart _ e unread
fact_apart holds folder catalog rows e (inr (counted, is, inl uneven)) = uneven_apart counted rows e uneven
fact_apart holds folder catalog rows e (inr (counted, is, inr (cut, evenly, unloaded))) = unloaded_apart holds folder catalog cut e unloaded

dimension_apart : (holds : Holds) (folder : List ℕ) (d : Dimension) (e : Refusal) → IsDimensionRefused holds folder d e → e ≢ refusal.CannotPrint
dimension_apart holds folder d e (inl unread) = unread_apart _ e unread
dimension_apart holds folder d e (inr (csv, fault, held, wrong, returned)) = λ is. let bad : refusal.Load fault ≡ refusal.CannotPrint = sym returned ∙ is in cc bad

pub dimensions_apart : (holds : Holds) (folder : List ℕ) (dims : List Dimension) (e : Refusal) → AreDimensionsRefused holds folder dims e → e ≢ refusal.CannotPrint
dimensions_apart holds folder dims e (inl memory) = memory_apart e memory
dimensions_apart holds folder dims e (inr first) = dimension_apart holds folder first.dim e first.refused

pub files_apart : (folder : List ℕ) (catalog : Catalog) (cut : Cut) (e : Refusal) → AreFilesUnwritten folder catalog cut e → e ≢ refusal.CannotPrint
files_apart folder catalog cut e (inl (k, below, unwritten)) = unwritten_apart _ e unwritten
files_apart folder catalog cut e (inr (inl (d, among, unwritten))) = unwritten_apart _ e unwritten
files_apart folder catalog cut e (inr (inr (inl (k, behind, below, unwritten)))) = unwritten_apart _ e unwritten
files_apart folder catalog cut e (inr (inr (inr unwritten))) = unwritten_apart _ e unwritten
