-- Proofs of the goals of `joined_file` (`table_files`).
use Rattle.std.specs.Prelude.{None, Ok, Option, Result, Some}
use Rattle.std.proofs.Common.{◌≡◌, ◌≢◌, ℕ, List, Err, IfOk, IfErr, sym, ap, subst, ◌∙◌}
use Rattle.std.proofs.lemmas.List.Elements.{recursion_from_All}
use Rattle.meaning.specs.declared.catalog.Dimension.{Dimension}
use Rattle.meaning.specs.Catalog.{HasKey, IsWellFormedTable}
use Rattle.meaning.specs.Order.{Row}
use Rattle.meaning.specs.Results.{and_then}
use Rattle.std.specs.Str.{bytes_eq}
use Rattle.loader.specs.Columns.{dimension_named}
use Rattle.loader.specs.Source.{csv_records}
use Rattle.coordinator.specs.declared.fault.WholeFault.{WholeFault}
use Rattle.coordinator.specs.Whole.{IsFileOf, dimension_table, files_in, joined_from, joined_table, rows_of_dimension}
use Rattle.coordinator.specs.declared.fault.WholeFault.TheVariants as fault
use Rattle.coordinator.proofs.TableFiles.{found_holds}
use Rattle.coordinator.proofs.table_files.joined_file.Goals as goal

weaker : {X E : Type 0} {P Q : X → Type 0} (r : Result X E) → ((x : X) → P x → Q x) → IfOk r P → IfOk r Q
weaker (Ok x) more p = more x p
weaker (Err e) more p = tt

pub dimension_file-requires-clause-table : goal.dimension_file-requires-clause-table
dimension_file-requires-clause-table c =
    found_holds (λ (d : Dimension). IsWellFormedTable d.table) (λ d. bytes_eq d.table.name c.as_str.result.now) c.args.catalog.now.dims c.in-Some.dimension.now
    (recursion_from_All (λ (d : Dimension). IsWellFormedTable d.table) c.args.catalog.now.dims c.requires.catalog.dims) (sym c.in-Some.ensures)

pub dimension_file-requires-clause-key : goal.dimension_file-requires-clause-key
dimension_file-requires-clause-key c =
    let has = found_holds HasKey (λ d. bytes_eq d.table.name c.as_str.result.now) c.args.catalog.now.dims c.in-Some.dimension.now
    (recursion_from_All HasKey c.args.catalog.now.dims c.requires.catalog.keys) (sym c.in-Some.ensures) in
    has.within

pub returns-clause-file : goal.returns-clause-file
returns-clause-file c = subst (λ meant. IfOk c.dimension_file.result (IsFileOf meant)) (sym is) c.dimension_file.ensures.file
  where
    is : joined_from c.args.catalog.now (files_in c.args.csvs.now) c.args.join.now ≡ dimension_table c.in-Some.dimension.now c.in_ok-csv.csv.now
    is = ap (λ (r : Result (List ℕ) WholeFault). and_then r (λ csv. joined_table c.args.catalog.now (c.args.join.now, csv))) c.in_ok-csv.ensures
        ∙ ap (λ (found : Option Dimension). rows_of_dimension found (csv_records c.in_ok-csv.csv.now)) (ap (dimension_named c.args.catalog.now) (sym c.as_str.ensures) ∙ sym c.in-Some.ensures)

pub returns-clause-refused : goal.returns-clause-refused
returns-clause-refused c = subst (λ (meant : Result (List Row) WholeFault). IfErr c.dimension_file.result (λ e. e ≢ fault.Memory → meant ≡ Err e)) (sym is) c.dimension_file.ensures.refused
  where
    is : joined_from c.args.catalog.now (files_in c.args.csvs.now) c.args.join.now ≡ dimension_table c.in-Some.dimension.now c.in_ok-csv.csv.now
    is = ap (λ (r : Result (List ℕ) WholeFault). and_then r (λ csv. joined_table c.args.catalog.now (c.args.join.now, csv))) c.in_ok-csv.ensures
        ∙ ap (λ (found : Option Dimension). rows_of_dimension found (csv_records c.in_ok-csv.csv.now)) (ap (dimension_named c.args.catalog.now) (sym c.as_str.ensures) ∙ sym c.in-Some.ensures)

pub returns-clause-joined : goal.returns-clause-joined
returns-clause-joined c = weaker c.dimension_file.result (λ bytes is. record {
  dimension = c.in-Some.dimension.now;
  named = ap (dimension_named c.args.catalog.now) (sym c.as_str.ensures) ∙ sym c.in-Some.ensures;
  file = is;
}) c.dimension_file.ensures.of_dimension

pub unreachable-requires : goal.unreachable-requires
unreachable-requires c =
    let none : ◌≡◌ {A = Option Dimension} None (Some c.requires.join.dimension) = c.in-None.ensures ∙ ap (dimension_named c.args.catalog.now) c.as_str.ensures ∙ c.requires.join.named in
    cc none
