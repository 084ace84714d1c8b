-- Proofs of the goals of `show_known` (`body`).
use Rattle.std.proofs.Common.{refl, string_bytes}
use Rattle.meaning.specs.declared.plan.AggregateKind.TheVariants as kind
use Rattle.answer_text.proofs.KnownShown.{average_shown, greatest_shown, least_shown, of_kind, rows_shown, set_shown, sum_of_set_shown}
use Rattle.answer_text.proofs.body.show_known.Goals as goal

pub returns-in-CountRows-clause-shown : goal.returns-in-CountRows-clause-shown
returns-in-CountRows-clause-shown c =
    of_kind c.args.cursor.now.rest.now c.show_count.result (string_bytes c.args.out.now) (string_bytes c.show_count.new.out) c.show_count.new.cursor.rest.now c.args.kind kind.CountRows c.in-CountRows.is
    (rows_shown c.args.cursor.now.rest.now c.show_count.result (string_bytes c.args.out.now) (string_bytes c.show_count.new.out) c.show_count.new.cursor.rest.now c.show_count.ensures.shown)

pub returns-in-Avg-clause-shown : goal.returns-in-Avg-clause-shown
returns-in-Avg-clause-shown c =
    of_kind c.args.cursor.now.rest.now c.show_sum-in-Avg.result (string_bytes c.args.out.now) (string_bytes c.show_sum-in-Avg.new.out) c.show_sum-in-Avg.new.cursor.rest.now c.args.kind kind.Avg c.in-Avg.is
    (average_shown c.args.cursor.now.rest.now c.show_sum-in-Avg.result (string_bytes c.args.out.now) (string_bytes c.show_sum-in-Avg.new.out) c.show_sum-in-Avg.new.cursor.rest.now c.show_sum-in-Avg.ensures.shown)

pub returns-in-Min-clause-shown : goal.returns-in-Min-clause-shown
returns-in-Min-clause-shown c =
    of_kind c.args.cursor.now.rest.now c.show_extreme.result (string_bytes c.args.out.now) (string_bytes c.show_extreme.new.out) c.show_extreme.new.cursor.rest.now c.args.kind kind.Min c.in-Min.is
    (least_shown c.args.cursor.now.rest.now c.show_extreme.result (string_bytes c.args.out.now) (string_bytes c.show_extreme.new.out) c.show_extreme.new.cursor.rest.now _ refl c.show_extreme.ensures.shown)

pub returns-in-Max-clause-shown : goal.returns-in-Max-clause-shown
returns-in-Max-clause-shown c =
    of_kind c.args.cursor.now.rest.now c.show_extreme-in-Max.result (string_bytes c.args.out.now) (string_bytes c.show_extreme-in-Max.new.out) c.show_extreme-in-Max.new.cursor.rest.now c.args.kind kind.Max c.in-Max.is
    (greatest_shown c.args.cursor.now.rest.now c.show_extreme-in-Max.result (string_bytes c.args.out.now) (string_bytes c.show_extreme-in-Max.new.out) c.show_extreme-in-Max.new.cursor.rest.now _ refl c.show_extreme-in-Max.ensures.shown)

pub returns-in-CountDistinct-clause-shown : goal.returns-in-CountDistinct-clause-shown
returns-in-CountDistinct-clause-shown c =
    of_kind c.args.cursor.now.rest.now c.show_set.result (string_bytes c.args.out.now) (string_bytes c.show_set.new.out) c.show_set.new.cursor.rest.now c.args.kind kind.CountDistinct c.in-CountDistinct.is
    (set_shown c.args.cursor.now.rest.now c.show_set.result (string_bytes c.args.out.now) (string_bytes c.show_set.new.out) c.show_set.new.cursor.rest.now c.show_set.ensures.shown)

pub returns-in-SumDistinct-clause-shown : goal.returns-in-SumDistinct-clause-shown
returns-in-SumDistinct-clause-shown c =
    of_kind c.args.cursor.now.rest.now c.show_set-in-SumDistinct.result (string_bytes c.args.out.now) (string_bytes c.show_set-in-SumDistinct.new.out) c.show_set-in-SumDistinct.new.cursor.rest.now c.args.kind kind.SumDistinct c.in-SumDistinct.is
    (sum_of_set_shown c.args.cursor.now.rest.now c.show_set-in-SumDistinct.result (string_bytes c.args.out.now) (string_bytes c.show_set-in-SumDistinct.new.out) c.show_set-in-SumDistinct.new.cursor.rest.now c.show_set-in-SumDistinct.ensures.shown)
