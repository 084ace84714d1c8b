-- Why a fact is refused, whose file was opened.
use Rattle.std.proofs.Common.{◌≡◌, ℕ, List, Option, Some, Err, inl, inr}
use Rattle.std.specs.Prelude.{IfSome}
use Rattle.meaning.specs.Cut.{Cut}
use Rattle.meaning.specs.declared.catalog.Catalog.{Catalog}
use Rattle.loader.specs.Columns.{fact_fragments}
use Rattle.loader.specs.Fault as loads
use Rattle.loader.specs.Source.{csv_records}
use Rattle.loader.specs.declared.fault.LoadFault.{LoadFault}
use Rattle.loader.specs.declared.fault.LoadFault.TheVariants as load_fault
use Rattle.folders.specs.Folder.{HasHeld, Holds, csv_path}
use Rattle.folders.specs.Refused.{IsReturnedAs, load_refusal}
use Rattle.folders.specs.declared.refusal.Refusal.{Refusal}
use Rattle.loads.specs.Refusing.{IsFactUnloaded}

module _ (holds : Holds) (folder : List ℕ) (catalog : Catalog) (remaining : Option (List ℕ)) (has : HasHeld (holds (csv_path folder catalog.fact.name)) remaining) where
  -- its table has a fault
  pub fact_unloaded : (cut : Cut) (fault : LoadFault) (e : Refusal) → ((bytes : List ℕ) → remaining ≡ Some bytes → IfSome (loads.fault_returned fault) (λ f. fact_fragments catalog cut (csv_records bytes) ≡ Err f))
      → IsReturnedAs (load_refusal folder catalog.fact.name fault) e → IsFactUnloaded holds folder catalog cut e
  fact_unloaded cut load_fault.Memory e stands (inl memory) = inl (inl memory)
  fact_unloaded cut load_fault.Memory e stands (inr returned) = inl (inl returned)
  fact_unloaded cut load_fault.Device e stands (inl memory) = inl (inl memory)
  fact_unloaded cut load_fault.Device e stands (inr returned) = inl (inr returned)
  fact_unloaded cut (load_fault.Table f) e stands (inl memory) = inl (inl memory)
  fact_unloaded cut (load_fault.Table f) e stands (inr returned) = inr (f, returned, λ csv held. stands csv (has csv held))
