-- Proofs of the goals of `fact_column_of` (`fact_column`).
use Rattle.std.proofs.Common.{◌≡◌, ℕ, Some, sym, subst, ◌∙◌}
use Rattle.pushdown.specs.declared.condition.Source.TheVariants as source
use Rattle.pushdown.specs.FactColumn.{StandsOn}
use Rattle.pushdown.specs.Pushdown.{IsPushable}
use Rattle.pushdown.proofs.NamedColumn.{some_named, stands_named}
use Rattle.pushdown.proofs.fact_column.fact_column_of.Goals as goal

pub returns-in_default-clause-none : goal.returns-in_default-clause-none
returns-in_default-clause-none c = λ _ column on. let clash = sym c.in_default.is ∙ c.column_in.ensures ∙ stands_named c.args.condition.now column on in cc

pub returns-then-can_push_down-clause-some : goal.returns-then-can_push_down-clause-some
returns-then-can_push_down-clause-some c = record {
  pushable = c.can_push_down.ensures.pushable.0 c.if-can_push_down.true;
  named = some_named c.args.condition.now c.in-Some.column (sym c.column_in.ensures ∙ c.in-Some.is);
}

pub returns-clause-none : goal.returns-clause-none
returns-clause-none c = λ _ column on.
    let there : Some c.in-Some.column ≡ Some column = sym c.in-Some.is ∙ c.column_in.ensures ∙ stands_named c.args.condition.now column on in
    let same : column ≡ c.in-Some.column = cc in
    let clash = sym c.if-can_push_down.false ∙ c.can_push_down.ensures.pushable.1 (subst (λ (n : ℕ). IsPushable (source.FactColumn n) c.args.condition.now) same on.pushable) in cc
