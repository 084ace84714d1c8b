use Rattle.std.proofs.Common.{◌≡◌, true, sym, ap, ◌∙◌, map}
use Rattle.loader.specs.Steps.{has_each}
use Rattle.loader.proofs.HeaderColumns.{each_has_a_field}
use Rattle.loader.proofs.header.order_by.Goals as goal

-- src/header.rt:141:8
pub with_inverse-requires : goal.with_inverse-requires
with_inverse-requires c = record {
  each = ap has_each c.in_ok-order.ensures ∙ each_has_a_field c.args.columns.now (map (λ field. field.now) c.args.header.now) (sym c.is_header.ensures ∙ c.if-not-is_header.false);
}
