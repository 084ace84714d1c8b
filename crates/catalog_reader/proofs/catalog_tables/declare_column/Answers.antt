-- Proofs of the goals of `declare_column` (`catalog_tables`).
use Rattle.std.proofs.Common.{◌≡◌, ◌+◌, ◌-◌, ◌∙◌, sym, ap, true, false, if◌then◌else◌, Some, None, length, set, arith, vec_len}
use Rattle.meaning.specs.declared.catalog.CatalogFault.TheVariants.{NameTwice}
use Rattle.catalog_reader.specs.CatalogTables.{has_column}
use Rattle.catalog_reader.proofs.LastTable.{column_fault-last, with_column-last}
use Rattle.catalog_reader.proofs.catalog_tables.declare_column.Goals as goal

pub returns-then-has_column-clause-err : goal.returns-then-has_column-clause-err
returns-then-has_column-clause-err c =
    let whole : (vec_len c.args.tables.now - 1) + 1
    ≡ length c.args.tables.now.items = grind (arith, c.in-Some.ensures.variant) in
    let twice : has_column c.in-Some.declared.now.table.columns c.args.column.name ≡ true = cc in
    λ _. column_fault-last _ _ _ c.args.line c.args.column whole (sym c.in-Some.ensures.value)
    ∙ ap (λ b. (if b then Some (NameTwice c.args.line) else None)) twice

pub returns-clause-ok : goal.returns-clause-ok
returns-clause-ok c =
    let whole : (vec_len c.args.tables.now - 1) + 1
    ≡ length c.args.tables.now.items = grind (arith, c.in-Some.ensures.variant) in
    let once : has_column c.in-Some.declared.now.table.columns c.args.column.name ≡ false = cc in
    column_fault-last _ _ _ c.args.line c.args.column whole (sym c.in-Some.ensures.value)
    ∙ ap (λ b. (if b then Some (NameTwice c.args.line) else None)) once

pub returns-clause-added : goal.returns-clause-added
returns-clause-added c =
    let whole : (vec_len c.args.tables.now - 1) + 1
    ≡ length c.args.tables.now.items = grind (arith, c.in-Some.ensures.variant) in
    ap (λ columns. set c.args.tables.now.items (vec_len c.args.tables.now - 1)
    (record c.in-Some.declared.now {
      table =
          record c.in-Some.declared.now.table { columns = columns };
    })) c.in_ok-push.ensures.ok
    ∙ with_column-last _ _ _ c.args.column whole (sym c.in-Some.ensures.value)
