-- Loop invariants of `show_groups` (`tables`).
use Rattle.std.proofs.Common.{◌≡◌, ◌++◌, List, map, string_bytes}
use Rattle.fragment_file.specs.Fragment.{group_sizes}
use Rattle.answer_text.specs.Reading.{IsSamePart}
use Rattle.table_text.specs.TableText.{GroupLayout, groups_at, groups_text}
use Rattle.table_text.proofs.GroupsShown.{behind}
use Rattle.table_text.proofs.tables.show_groups.Given as goal

abbrev pub invariant-loop-left : goal.invariant-loop-left
invariant-loop-left l = (read : List GroupLayout)
    × (behind read (groups_at l.fn.cursor.bytes.now l.columns (group_sizes l.left) l.cursor.rest.now) ≡ groups_at l.fn.cursor.bytes.now l.columns (group_sizes l.rows) l.fn.cursor.rest.now)
    × (string_bytes l.out ≡ string_bytes l.fn.out ++ groups_text l.columns l.fn.cursor.first read) × (map (λ g. g.items) l.groups.items ≡ map (λ g. g.blocks) read) × IsSamePart l.fn.cursor l.cursor

abbrev pub decreases-loop-left : goal.decreases-loop-left
decreases-loop-left l = l.left
