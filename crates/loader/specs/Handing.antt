-- The fact table's fragments, handed on one after the other.
use Rattle.std.specs.Prelude.{◌≡◌, ℕ, List, [], ◌∷◌, Option, None, Some, Result, Ok, Err, ⊤}
use Rattle.meaning.specs.declared.catalog.Column.{Column}
use Rattle.meaning.specs.declared.table.TableFault.{TableFault}
use Rattle.meaning.specs.Records.{Record}
use Rattle.meaning.specs.Results.{and_then}
use Rattle.columns.specs.Column.{ColumnSpec}
use Rattle.loader.specs.Columns.{AreRowsOf}
use Rattle.loader.specs.Source.{IsLeft}
use Rattle.loader.specs.Steps.{fragments_left}
use Rattle.loader.specs.declared.fact.FactReader.{FactReader}
use Rattle.loader.specs.declared.fault.LoadFault.{LoadFault}
use Rattle.loader.specs.declared.fault.LoadFault.TheVariants.{Memory, Table, Device}

-- the columns as the catalogue declares them, and the lengths of the fragments that are still to come
abbrev pub declared_in : {R : Type 0} → FactReader R → List Column
declared_in reader = reader.rows.declared.now

abbrev pub lengths_ahead : {R : Type 0} → FactReader R → List ℕ
lengths_ahead reader = reader.ahead.lengths.now

-- these fragments are still to come, or this fault
pub record IsToCome {R : Type 0} (known : R → Option (List ℕ)) (reader : FactReader R) (meant : Result (List (List ColumnSpec)) TableFault) : Type 0 where
  pub rest : List Record
  pub left : IsLeft known reader.rows.reader rest
  pub is : meant ≡ fragments_left (declared_in reader) reader.rows.order.columns.items reader.ahead.first (lengths_ahead reader) rest

-- the fragments behind the first
abbrev pub in_front : List ColumnSpec → Result (List (List ColumnSpec)) TableFault → Result (List (List ColumnSpec)) TableFault
in_front fragment others = and_then others (λ fragments. Ok (fragment ∷ fragments))

-- the first of these fragments was handed on and the others are to come, or there was none, or the fault is returned
abbrev pub HandsOn : {R : Type 0} → (R → Option (List ℕ)) → Result (List (List ColumnSpec)) TableFault → FactReader R → Result (Option (List ColumnSpec)) LoadFault → Type 0
HandsOn known meant reader (Ok (Some fragment)) = (others : Result (List (List ColumnSpec)) TableFault) × (meant ≡ in_front fragment others) × IsToCome known reader others
HandsOn known meant reader (Ok None) = meant ≡ Ok []
HandsOn known meant reader (Err (Table fault)) = meant ≡ Err fault
HandsOn known meant reader (Err Memory) = ⊤
HandsOn known meant reader (Err Device) = ⊤

-- these fragments are to come from what was opened, or the fault is returned
abbrev pub OpensFact : {R : Type 0} → (R → Option (List ℕ)) → Result (List (List ColumnSpec)) TableFault → Result (FactReader R) LoadFault → Type 0
OpensFact known meant (Ok reader) = IsToCome known reader meant
OpensFact known meant (Err (Table fault)) = meant ≡ Err fault
OpensFact known meant (Err Memory) = ⊤
OpensFact known meant (Err Device) = ⊤

-- a fragment of the next length was handed on, or none was left
abbrev pub IsNextOf : List Column → List ℕ → List ℕ → Option (List ColumnSpec) → Type 0
IsNextOf declared before after (Some columns) = (n : ℕ) × (before ≡ n ∷ after) × AreRowsOf declared n columns
IsNextOf declared before after None = before ≡ []
