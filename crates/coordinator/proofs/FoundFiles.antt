-- Finding the file of a table among those that are lent.
use Rattle.std.specs.Prelude.{◌≡◌, ℕ, true, false, cond, List, [], ◌∷◌, find, option_map, Option, Some, None, Result, Ok, Err}
use Rattle.std.specs.Borrow.{Bor}
use Rattle.std.specs.Str.{bytes_eq}
use Rattle.std.proofs.Common.{refl}
use Rattle.coordinator.specs.declared.fault.WholeFault.{WholeFault}
use Rattle.coordinator.specs.declared.fault.WholeFault.TheVariants as fault
use Rattle.coordinator.specs.Whole.{files_in, found_csv, csv_of}

-- the result for a file that was looked for
abbrev pub returned : List ℕ → Option (List ℕ) → Result (List ℕ) WholeFault
returned name None = Err (fault.MissingCsv name)
returned name (Some csv) = Ok csv

pub csv_found : (name : List ℕ) (csvs : List (Bor (List ℕ) × Bor (List ℕ))) → csv_of (files_in csvs) name ≡ returned name (option_map (λ file. file.1.now) (find (λ file. bytes_eq file.0.now name) csvs))
csv_found name [] = refl
csv_found name (f ∷ fs) = elim (bytes_eq f.0.now name) as (λ t. found_csv name (cond t (Some (f.0.now, f.1.now)) (find (λ file. bytes_eq file.0 name) (files_in fs))) ≡ returned name (option_map (λ file. file.1.now) (cond t (Some f) (find (λ file. bytes_eq file.0.now name) fs)))) [
  | true ↦ refl
  | false ↦ csv_found name fs
]
