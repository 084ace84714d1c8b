-- The parts of a plan, by what they were made of.
use Rattle.std.proofs.Common.{◌≡◌, ℕ, Bool, not, List, None, Result, Ok, ap, ◌∙◌}
use Rattle.meaning.specs.Results.{and_then}
use Rattle.meaning.specs.declared.plan.Join.{Join}
use Rattle.sql_syntax.specs.declared.tree.Query.{Query}
use Rattle.planner_expressions.specs.declared.basis.Basis.TheVariants.{Groups}
use Rattle.planner_expressions.specs.declared.fault.PlanFault.{PlanFault}
use Rattle.planner_expressions.specs.declared.scope.Scope.{Scope}
use Rattle.planner_expressions.specs.Results.{Reports}
use Rattle.planner_clauses.specs.declared.aggregates.Aggregates.{Aggregates}
use Rattle.planner_clauses.specs.declared.conjuncts.Conjuncts.{Conjuncts}
use Rattle.planner_clauses.specs.declared.conjuncts.Equality.{Equality}
use Rattle.planner_clauses.specs.declared.keys.Keys.{Keys}
use Rattle.planner.specs.declared.parts.Grouped.{Grouped}
use Rattle.planner.specs.declared.parts.Tables.{Tables}
use Rattle.planner_clauses.specs.Groups.{all_aggregates, grouped_with, keys_by}
use Rattle.planner.specs.Planned.{conjuncts, joins_of, table_use, tables_of, tables_with, shown_of, groups_with, basis_of}
use Rattle.planner_clauses.proofs.Reporting.{goes, as_returned}

module _ (s : Scope) (q : Query) where
  abbrev pub groups_by : Aggregates → Keys → Bool → Result Grouped PlanFault
  groups_by l k plain = and_then (shown_of s q (Groups k.written l.written)) (λ shown. Ok (record { keys = k.list; aggs = l.list; plain = plain; shown = shown }))

  pub groups_given : (l : Aggregates) (g plain : Bool) (k : Keys) (r : Result Grouped PlanFault) → l ≡ all_aggregates s q → g ≡ grouped_with q l → k ≡ keys_by g s q → plain ≡ not g
      → Reports r (groups_by l k plain) → Reports r (and_then (shown_of s q (basis_of s q)) (λ shown. Ok (groups_with s q shown)))
  groups_given l g plain k r l_is g_is k_is plain_is returned =
      let grouped = g_is ∙ ap (grouped_with q) l_is in
      let keys = k_is ∙ ap (λ (b : Bool). keys_by b s q) grouped in
      let isnt = plain_is ∙ ap not grouped in
      as_returned r (groups_by l k plain) _ (λ i. groups_by (l_is i) (keys i) (isnt i)) returned

  pub tables_given : (fact : List ℕ) (c : Conjuncts) (es : List Equality) (o : Result (List Join) PlanFault) (js : List Join) (r : Result Tables PlanFault) → c ≡ conjuncts s q → es ≡ c.equalities
      → o ≡ Ok js → Reports o (joins_of s q es) → Reports r (Ok (record { fact = table_use s q None fact; joins = js; conjuncts = c.plain })) → Reports r (tables_of fact s q)
  tables_given fact c es o js r c_is es_is o_is joined returned =
      goes o (joins_of s q (conjuncts s q).equalities) js (λ joins. Ok (tables_with s q fact joins)) r o_is
      (as_returned o (joins_of s q es) _ (ap (joins_of s q) (es_is ∙ ap (λ (x : Conjuncts). x.equalities) c_is)) joined)
      (as_returned r _ _ (ap (λ (x : Conjuncts). Ok (record { fact = table_use s q None fact; joins = js; conjuncts = x.plain })) c_is) returned)
