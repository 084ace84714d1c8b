-- What a refusal says of the files.
use Rattle.std.proofs.Common.{◌≡◌, ℕ, suc, ◌<◌, ◌≤◌, List, ◌∷◌, ◌++◌, length, take, drop, get_or, All, Err, Some, sym, subst, ap, ◌∙◌}
use Rattle.std.proofs.Math.Seq.{split_at}
use Rattle.std.specs.Prelude.{IfSome, Option, sum}
use Rattle.meaning.specs.declared.catalog.Catalog.{Catalog}
use Rattle.meaning.specs.declared.catalog.Dimension.{Dimension}
use Rattle.meaning.specs.Cut.{Cut}
use Rattle.meaning.specs.Records.{dimension_of}
use Rattle.loader.specs.Columns.{fact_fragments}
use Rattle.loader.specs.Fault.{fault_returned}
use Rattle.loader.specs.Source.{csv_records}
use Rattle.loader.specs.declared.fault.LoadFault.{LoadFault}
use Rattle.folders.specs.Folder.{HasHeld, Holds, csv_path}
use Rattle.init.specs.declared.fault.InitFault.{InitFault}
use Rattle.init.specs.declared.fault.InitFault.TheVariants as fault
use Rattle.init.specs.declared.fault.PathFault.TheVariants as path_fault
use Rattle.init.specs.Making.{IsDimensionFit}
use Rattle.init.specs.Refusing.{IsDimensionRefused, IsFactRefused, IsFirstRefused, IsOfLoad}
use Rattle.init.proofs.Loading.{is_no_fact}

-- the records of the fact's file have a fault
pub fact_refused : (holds : Holds) (path : List ℕ) (catalog : Catalog) (cut : Cut) (remaining : Option (List ℕ)) (given : LoadFault) (e : InitFault) → HasHeld (holds path) remaining
    → sum cut ≤ 4294967296 → ((csv : List ℕ) → holds path ≡ Some csv → sum cut ≡ length (drop 1 (csv_records csv)))
    → ((bytes : List ℕ) → remaining ≡ Some bytes → IfSome (fault_returned given) (λ f. fact_fragments catalog cut (csv_records bytes) ≡ Err f)) → IsOfLoad path given e → IsFactRefused holds path catalog e
fact_refused holds path catalog cut remaining given fault.Memory has few whole refused of = tt
fact_refused holds path catalog cut remaining given (fault.Path file path_fault.CannotRead) has few whole refused of = of.0
fact_refused holds path catalog cut remaining given (fault.Table file f) has few whole refused of = (
  of.0,
  λ csv held. subst (λ (n : ℕ). n ≤ 4294967296) (whole csv held) few,
  λ csv other held all.
      is_no_fact catalog cut (csv_records csv) f (whole csv held)
      (subst (λ (g : LoadFault). IfSome (fault_returned g) (λ t. fact_fragments catalog cut (csv_records csv) ≡ Err t)) of.1 (refused csv (has csv held))) other all,
)
fact_refused holds path catalog cut remaining given (fault.Path file path_fault.TooManyRows) has few whole refused of = absurd of
fact_refused holds path catalog cut remaining given _ has few whole refused of = of

-- the records of a dimension's file have one
pub dimension_refused : (holds : Holds) (path : List ℕ) (d : Dimension) (remaining : Option (List ℕ)) (given : LoadFault) (e : InitFault) → HasHeld (holds path) remaining
    → ((bytes : List ℕ) → remaining ≡ Some bytes → IfSome (fault_returned given) (λ f. dimension_of d (csv_records bytes) ≡ Err f)) → IsOfLoad path given e → IsDimensionRefused holds path d e
dimension_refused holds path d remaining given fault.Memory has refused of = tt
dimension_refused holds path d remaining given (fault.Path file path_fault.CannotRead) has refused of = of.0
dimension_refused holds path d remaining given (fault.Table file f) has refused of =
    (of.0, λ csv held. subst (λ (g : LoadFault). IfSome (fault_returned g) (λ t. dimension_of d (csv_records csv) ≡ Err t)) of.1 (refused csv (has csv held)))
dimension_refused holds path d remaining given _ has refused of = of

pub first_refused : (holds : Holds) (folder : List ℕ) (dims : List Dimension) (k : ℕ) (d : Dimension) (e : InitFault) → k < length dims → d ≡ get_or dims k d → All (IsDimensionFit holds folder) (take k dims)
    → IsDimensionRefused holds (csv_path folder d.table.name) d e → IsFirstRefused holds folder dims e
first_refused holds folder dims k d e below is fit refused = record {
  before = take k dims;
  dim = d;
  behind = drop (suc k) dims;
  dims_are = split_at dims k d below ∙ ap (λ (x : Dimension). take k dims ++ x ∷ drop (suc k) dims) (sym is);
  fit = fit;
  refused = refused;
}
