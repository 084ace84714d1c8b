-- Proofs of the goals of `declared_tables` (`catalog_tables`).
use Rattle.std.proofs.Common.{◌≡◌, refl, ℕ, ◌+◌, ◌<◌, ◌∙◌, sym, List, [], Bor, length, map, get_or, arith, ap}
use Rattle.std.proofs.lemmas.Result.{err_from_is_err_and}
use Rattle.std.proofs.lemmas.List.{length-map, get_or-map}
use Rattle.catalog_reader.specs.declared.catalog_line.Line.{Line}
use Rattle.catalog_reader.specs.CatalogLine.{line_of}
use Rattle.catalog_reader.specs.CatalogTables.{fault_at, with_line}
use Rattle.catalog_reader.proofs.CatalogSteps.{first_line_fault-more, tables_of-more, first_line_fault-stop}
use Rattle.catalog_reader.proofs.catalog_tables.declared_tables.Goals as goal

-- what the lines say
abbrev said : List (Bor (List ℕ)) → List Line
said lines = map line_of (map (λ line. line.now) lines)

length-said : (lines : List (Bor (List ℕ))) → length (said lines) ≡ length lines
length-said lines = simp length-map refl

get_or-said : (lines : List (Bor (List ℕ))) (i : ℕ) (d : Bor (List ℕ)) (e : Line) → i < length lines
    → get_or (said lines) i e ≡ line_of (get_or lines i d).now
get_or-said lines i d e within =
    let text : Bor (List ℕ) → List ℕ = λ line. line.now in
    let within' : i < length (map text lines) = simp length-map within in
    get_or-map line_of (map text lines) i [] e within' ∙ ap line_of (get_or-map text lines i d [] within)

pub returns-in_err-declare_line-clause-err : goal.returns-in_err-declare_line-clause-err
returns-in_err-declare_line-clause-err c =
    let p = err_from_is_err_and c.from_residual.result c.from_residual.ensures.1 in
    let i = c.loop-index.index in
    let lines = said c.args.lines.now in
    let line = line_of c.as_bytes.result.now in
    let within : i < length lines = omega (arith, length-said c.args.lines.now) in
    let is : get_or lines i line ≡ line = get_or-said c.args.lines.now i _ line c.loop-index-test.true
    ∙ ap line_of (sym c.as_bytes.ensures.value) in
    rw (p.1, p.2) (λ other. first_line_fault-stop lines i line _ within is c.loop-index.invariant.0
    (ap (λ tables. fault_at tables (i + 1) line) (sym c.loop-index.invariant.1)
    ∙ c.in_err-declare_line.ensures.err other))

pub loop-index-preserved : goal.loop-index-preserved
loop-index-preserved c =
    let i = c.loop-index.index in
    let lines = said c.args.lines.now in
    let line = line_of c.as_bytes.result.now in
    let within : i < length lines = omega (arith, length-said c.args.lines.now) in
    let is : get_or lines i line ≡ line = get_or-said c.args.lines.now i _ line c.loop-index-test.true
    ∙ ap line_of (sym c.as_bytes.ensures.value) in (
      first_line_fault-more lines i line within is c.loop-index.invariant.0
          (ap (λ tables. fault_at tables (i + 1) line) (sym c.loop-index.invariant.1)
          ∙ c.in_ok-declare_line.ensures.ok),
      c.in_ok-declare_line.ensures.added ∙ ap (λ tables. with_line tables line) c.loop-index.invariant.1
          ∙ sym (tables_of-more lines i line within is),
    )
