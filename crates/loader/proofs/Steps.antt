-- From one record to the next.
use Rattle.std.proofs.Common.{◌≡◌, ℕ, Bool, true, false, List, [], ◌∷◌, Ok, Err, Option, refl}
use Rattle.std.specs.Prelude.{Result, IfOk}
use Rattle.csv.specs.declared.reader.Reader.{Reader}
use Rattle.meaning.specs.declared.catalog.Column.{Column}
use Rattle.meaning.specs.Records.{Record, row_of}
use Rattle.columns.specs.Column.{ColumnSpec}
use Rattle.loader.specs.declared.fault.LoadFault.{LoadFault}
use Rattle.loader.specs.declared.fault.LoadFault.TheVariants.{Memory, Table, Device}
use Rattle.meaning.specs.Wanting.{ReportsIfMemory}
use Rattle.loader.specs.Fault.{fault_returned}
use Rattle.loader.specs.Source.{IsLeft, TakesNext}
use Rattle.loader.specs.Steps.{IsFaultOf, Opens, TakesRow, TakesNextRow, is_more, order_of}
use Rattle.meaning.specs.Order.{Row}
use Rattle.meaning.specs.declared.table.TableFault.{TableFault}

module _ {R : Type 0} (known : R → Option (List ℕ)) (after : Reader R) (rest : List Record) (fields : Record) where
  pub none_taken : (found : Bool) → found ≡ false → TakesNext known after rest found fields → rest ≡ []
  none_taken true e taken = cc e
  none_taken false e taken = taken

  pub one_taken : (found : Bool) → found ≡ true → TakesNext known after rest found fields → (others : List Record) × (rest ≡ fields ∷ others) × IsLeft known after others
  one_taken true e taken = taken
  one_taken false e taken = cc e

  module _ (declared : List Column) (order : List ℕ) (row : ℕ) (before now : List ColumnSpec) where
    -- the fault of the record is returned
    pub row_refused : (others : List Record) → rest ≡ fields ∷ others → (e : LoadFault) → TakesRow (row_of declared order row fields) before now (Err e)
        → TakesNextRow known declared order row rest before now after (Err e)
    row_refused others first (Table fault) judged = (fields, others, first, judged)
    row_refused others first Memory judged = tt
    row_refused others first Device judged = tt

-- if there was no record, none is to come
pub more_come : {R : Type 0} (known : R → Option (List ℕ)) (before after : Reader R) (fields : Record) (result : Result Bool LoadFault)
    → IfOk result (λ found. (rest : List Record) → IsLeft known before rest → TakesNext known after rest found fields)
    → IfOk result (λ found. (rest : List Record) → IsLeft known before rest → found ≡ is_more rest)
more_come known before after fields (Err e) taken = tt
more_come known before after fields (Ok false) taken = λ rest left. rw (taken rest left) refl
more_come known before after fields (Ok true) taken = λ rest left. rw (taken rest left).1 refl

-- a record that is refused is not taken
pub fault_taken : (judged : Result Row TableFault) (before now : List ColumnSpec) (e : LoadFault) → IsFaultOf judged e → TakesRow judged before now (Err e)
fault_taken judged before now (Table fault) returned = returned
fault_taken judged before now Memory returned = tt
fault_taken judged before now Device returned = returned

-- what the first record says of the columns is what opening gives
pub opened : {R X : Type 0} (known : R → Option (List ℕ)) (after : Reader R) (declared : List Column) (order : X → List ℕ) (rest others : List Record) (header : Record)
    → rest ≡ header ∷ others → IsLeft known after others → (result : Result X LoadFault) → ReportsIfMemory fault_returned order result (order_of declared header)
    → Opens order (λ _. after) known declared rest result
opened known after declared order rest others header first left (Ok x) returned = (header, others, first, returned, left)
opened known after declared order rest others header first left (Err (Table fault)) returned = rw first returned
opened known after declared order rest others header first left (Err Memory) returned = tt
opened known after declared order rest others header first left (Err Device) returned = tt
