-- Loop invariants of `declared_tables` (`catalog_tables`).
use Rattle.std.proofs.Common.{◌≡◌, None, [], map, take}
use Rattle.catalog_reader.specs.CatalogLine.{line_of}
use Rattle.catalog_reader.specs.CatalogTables.{first_line_fault, statements, tables_of}
use Rattle.catalog_reader.proofs.catalog_tables.declared_tables.Given as goal

-- the lines so far have no fault, and declare the tables
abbrev pub invariant-loop-index : goal.invariant-loop-index
invariant-loop-index l =
    let said = take l.index (map line_of (map (λ line. line.now) l.lines)) in
    (first_line_fault [] said ≡ None) × (l.tables.items ≡ tables_of (statements said))
