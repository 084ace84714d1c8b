-- Proofs of the goals of `is_ascending` (`dictionary::check`).
use Rattle.std.proofs.Common.{◌≡◌, sym, ap, ◌∙◌, arith}
use Rattle.std.specs.Ordering.{is_lt}
use Rattle.meaning.specs.declared.value.Value.{Value}
use Rattle.meaning.specs.declared.value.Value.TheVariants.{Null}
use Rattle.meaning.specs.Order.{value_cmp}
use Rattle.blocks.specs.Plain.{values_form}
use Rattle.blocks.proofs.Ascending.{ascending_step, ascending_end}
use Rattle.blocks.proofs.Ends.{length-values_form}
use Rattle.bit_packing.proofs.Steps.{and_true, and_false}
use Rattle.blocks.proofs.dictionary.check.is_ascending.Goals as goal

same_test : {x y x' y' : Value} → x ≡ x' → y ≡ y' → is_lt (value_cmp x' y') ≡ is_lt (value_cmp x y)
same_test {x} {y} {x'} {y'} p q = ap (λ v. is_lt (value_cmp v y')) (sym p) ∙ ap (λ v. is_lt (value_cmp x v)) (sym q)

pub returns-then-not-is_less : goal.returns-then-not-is_less
returns-then-not-is_less c =
    let values = values_form c.args.col_type c.args.count c.args.bytes.now in
    let long = length-values_form c.args.col_type c.args.count c.args.bytes.now in
    let step = ascending_step value_cmp values Null c.loop-i.i _ (omega arith) (omega arith) c.loop-i.invariant in
    let test = same_test c.value_at.ensures c.value_at-in-loop-i.ensures in
    and_false _ _ _ step (test ∙ sym c.is_less.ensures ∙ c.if-not-is_less.true)

pub loop-i-preserved : goal.loop-i-preserved
loop-i-preserved c =
    let values = values_form c.args.col_type c.args.count c.args.bytes.now in
    let long = length-values_form c.args.col_type c.args.count c.args.bytes.now in
    let step = ascending_step value_cmp values Null c.loop-i.i _ (omega arith) (omega arith) c.loop-i.invariant in
    let test = same_test c.value_at.ensures c.value_at-in-loop-i.ensures in
    and_true _ _ _ step (test ∙ sym c.is_less.ensures ∙ c.if-not-is_less.false)

pub returns : goal.returns
returns c =
    let values = values_form c.args.col_type c.args.count c.args.bytes.now in
    let long = length-values_form c.args.col_type c.args.count c.args.bytes.now in
    ascending_end value_cmp values c.loop-i.i _ (omega arith) (omega arith) c.loop-i.invariant
