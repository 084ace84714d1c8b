-- The largest file so far, and of several so large the first.
use Rattle.std.proofs.Common.{◌≡◌, ℕ, ◌+◌, ◌<◌, ◌≤◌, List, All, get_or, length, take, subst, arith}
use Rattle.std.proofs.lemmas.List.Elements.{All-more, All-weaker}
use Rattle.init.specs.declared.listing.CsvFile.{CsvFile}

module _ (files : List CsvFile) where
  abbrev pub IsFirst : CsvFile → Type 0
  IsFirst most = (k : ℕ) × (k < length files) × (most ≡ get_or files k most) × All (λ (other : CsvFile). other.bytes < most.bytes) (take k files)

  abbrev pub IsMost : ℕ → CsvFile → Type 0
  IsMost i most = All (λ (other : CsvFile). other.bytes ≤ most.bytes) (take i files)

  fewer : (a b c : ℕ) → a ≤ b → b < c → a < c
  fewer a b c less more = omega (arith, less, more)

  no_more : (a b c : ℕ) → a ≤ b → b < c → a ≤ c
  no_more a b c less more = omega (arith, less, more)

  itself : (n : ℕ) → n ≤ n
  itself n = omega arith

  pub next_larger : (i : ℕ) (most file : CsvFile) → i < length files → file ≡ get_or files i file → IsMost i most → most.bytes < file.bytes → IsFirst file × IsMost (i + 1) file
  next_larger i most file below is all more = (
    (i, below, is, All-weaker (λ (other : CsvFile). other.bytes ≤ most.bytes) (λ (other : CsvFile). other.bytes < file.bytes) (λ other less. fewer other.bytes most.bytes file.bytes less more) (take i files) all),
    All-more (λ (other : CsvFile). other.bytes ≤ file.bytes) files i file below
        (All-weaker (λ (other : CsvFile). other.bytes ≤ most.bytes) (λ (other : CsvFile). other.bytes ≤ file.bytes) (λ other less. no_more other.bytes most.bytes file.bytes less more) (take i files) all)
        (subst (λ (other : CsvFile). other.bytes ≤ file.bytes) is (itself file.bytes)),
  )

  pub no_larger : (i : ℕ) (most file : CsvFile) → i < length files → file ≡ get_or files i file → IsMost i most → file.bytes ≤ most.bytes → IsMost (i + 1) most
  no_larger i most file below is all less =
      All-more (λ (other : CsvFile). other.bytes ≤ most.bytes) files i file below all (subst (λ (other : CsvFile). other.bytes ≤ most.bytes) is less)
