-- Proofs of the goals of `show_counted` (`cuts`).
use Rattle.std.proofs.Common.{refl, string_bytes}
use Rattle.table_text.proofs.Alikes.{counted}
use Rattle.table_text.proofs.cuts.show_counted.Goals as goal

pub returns-clause-shown : goal.returns-clause-shown
returns-clause-shown c =
    let (cut, read, each, total) = c.in_ok-rows.ensures.shown in (
      cut,
      rw (c.in_ok-count.ensures.read, read) refl,
      counted c.in_ok-count.count c.in_ok-rows.rows c.take_count.new.cursor.rest.now c.show_lengths.new.cursor.rest.now cut (string_bytes c.args.out.now) (string_bytes c.put_count.new.out) (string_bytes c.show_lengths.new.out) (string_bytes c.put_rows.new.out)
          read total c.in_ok-put_count.ensures each c.in_ok-put_rows.ensures,
    )
