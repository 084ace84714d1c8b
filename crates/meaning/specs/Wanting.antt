-- What a call gives beside what is meant, where memory may be wanting.
--     GivesIfMemory     what is meant, or its fault, unless memory is wanting
--     KeepsIfMemory     the same, where a relation says which values are what is meant
--     ReportsIfMemory     the same, where an error is made of a fault of another type
use Rattle.std.specs.Prelude.{◌≡◌, ◌≢◌, Option, IfSome, Result, Ok, Err}

-- what a call gave, seen by `view`, is what is meant, unless its error is this one, which says that memory was wanting
abbrev pub GivesIfMemory : {E X Y : Type 0} → E → (X → Y) → Result X E → Result Y E → Type 0
GivesIfMemory memory view (Ok x) meant = meant ≡ Ok (view x)
GivesIfMemory memory view (Err e) meant = e ≢ memory → meant ≡ Err e

-- the same, where a relation says whether what was given is what is meant
abbrev pub KeepsIfMemory : {E X Y : Type 0} → E → (X → Y → Type 0) → Result X E → Result Y E → Type 0
KeepsIfMemory {E} {X} {Y} memory is (Ok x) meant = (y : Y) × (meant ≡ Ok y) × is x y
KeepsIfMemory memory is (Err e) meant = e ≢ memory → meant ≡ Err e

-- the same, where an error is made of a fault, or of none where it says that memory was wanting or that a reader failed
abbrev pub ReportsIfMemory : {E F X Y : Type 0} → (E → Option F) → (X → Y) → Result X E → Result Y F → Type 0
ReportsIfMemory returned view (Ok x) meant = meant ≡ Ok (view x)
ReportsIfMemory returned view (Err e) meant = IfSome (returned e) (λ f. meant ≡ Err f)
