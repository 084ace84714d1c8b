-- From the header and the fragments behind it to the fact table.
use Rattle.std.proofs.Common.{◌≡◌, ◌≤◌, ◌<◌, ◌^◌, ℕ, suc, ◌*◌, Bool, true, false, List, [], ◌∷◌, length, map, get_or, Ok, Err, None, sym, ap, ◌∙◌, arith}
use Rattle.std.specs.Prelude.{Result, sum, if◌then◌else◌}
use Rattle.std.specs.List.{enumerate_from}
use Rattle.meaning.specs.Limits.{max_rows}
use Rattle.meaning.specs.declared.catalog.Catalog.{Catalog}
use Rattle.meaning.specs.declared.catalog.Column.{Column}
use Rattle.meaning.specs.declared.table.TableFault.{TableFault}
use Rattle.meaning.specs.declared.table.TableFault.TheVariants as fault
use Rattle.meaning.specs.Cut.{IsCut, Cut}
use Rattle.meaning.specs.Records.{Record, is_header, file_order, unless_few, judged_record}
use Rattle.meaning.specs.Results.{all_ok, and_then}
use Rattle.meaning_laws.proofs.Cuts.{sum_cons}
use Rattle.loader.specs.Columns.{fact_fragments, fragments_of}
use Rattle.loader.specs.Steps.{order_of, fragments_left}
use Rattle.loader.proofs.WholeTable.{cut_from}

-- the order of the columns, where the first record is a header
abbrev pub ordered : Bool → List ℕ → Result (List ℕ) TableFault
ordered b order = if b then Ok order else Err fault.Header

-- a table behind its header
by_header : (declared : List Column) (cut : Cut) (header : Record) (others : List Record) (order : List ℕ) (b : Bool) → ordered b (file_order declared header) ≡ Ok order
    → and_then (if b then and_then (all_ok (map (judged_record declared None (sum cut) (file_order declared header) others) (enumerate_from 0 others))) (unless_few (sum cut)) else Err fault.Header) (λ rows. Ok (fragments_of declared cut rows))
    ≡ fragments_left declared order 0 cut others
by_header declared cut header others order true e =
    let same : file_order declared header ≡ order = cc e in
    ap (λ (o : List ℕ). and_then (and_then (all_ok (map (judged_record declared None (sum cut) o others) (enumerate_from 0 others))) (unless_few (sum cut))) (λ rows. Ok (fragments_of declared cut rows))) same
    ∙ cut_from declared order (sum cut) others cut 0 others (omega arith)
by_header declared cut header others order false e = cc e

pub fact_is : (catalog : Catalog) (cut : Cut) (header : Record) (others : List Record) (order : List ℕ) → order_of catalog.fact.columns header ≡ Ok order
    → fact_fragments catalog cut (header ∷ others) ≡ fragments_left catalog.fact.columns order 0 cut others
fact_is catalog cut header others order e = by_header catalog.fact.columns cut header others order (is_header catalog.fact.columns header) e

-- the table of a file whose header was read
pub opened_fact : (catalog : Catalog) (cut : Cut) (declared : List Column) (records : List Record) (header : Record) (others : List Record) (order : List ℕ) → declared ≡ catalog.fact.columns → records ≡ header ∷ others
    → order_of declared header ≡ Ok order → fact_fragments catalog cut records ≡ fragments_left declared order 0 cut others
opened_fact catalog cut declared records header others order same all ordered_so =
    ap (fact_fragments catalog cut) all ∙ fact_is catalog cut header others order (rw same at ordered_so) ∙ ap (λ (d : List Column). fragments_left d order 0 cut others) (sym same)

-- ---- the rows of a cut

sum_short : (ns : List ℕ) (m : ℕ) → ((i d : ℕ) → i < length ns → get_or ns i d ≤ m) → sum ns ≤ length ns * m
sum_short [] m each = omega arith
sum_short (n ∷ ns) m each =
    let here : n ≤ m = each 0 0 (omega arith) in
    let others = sum_short ns m (λ i d lt. each (suc i) d (omega arith)) in
    omega (arith, sum_cons n ns, here, others)

pub rows_few : (cut : Cut) → IsCut cut → sum cut < 2 ^ 64
rows_few cut is =
    let most = sum_short cut max_rows is.short in
    omega (arith, most, is.few)
